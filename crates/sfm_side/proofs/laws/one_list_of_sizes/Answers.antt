use Rattle.sfm_side.specs.Sizes.{sizes_form}
use Rattle.sfm_side.proofs.OneReading.{one-reading, not-both, one-fault}
use Rattle.sfm_side.proofs.OneSaying.{sizes-once}
use Rattle.sfm_side.proofs.laws.one_list_of_sizes.Goals as goal

pub returns-clause-once : goal.returns-clause-once
returns-clause-once c = λ names a b distinct. one-reading (sizes_form names)
    (sizes-once names distinct) c.args._text.now a b

pub returns-clause-not_both : goal.returns-clause-not_both
returns-clause-not_both c = λ names a line reason distinct. not-both (sizes_form names)
    (sizes-once names distinct) c.args._text.now a line reason

pub returns-clause-first : goal.returns-clause-first
returns-clause-first c = λ names line line' reason reason' distinct. one-fault (sizes_form names)
    (sizes-once names distinct) c.args._text.now line line' reason reason'
