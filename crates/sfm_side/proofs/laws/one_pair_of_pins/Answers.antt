use Rattle.sfm_side.specs.Pins.{pins_form}
use Rattle.sfm_side.proofs.OneReading.{one-reading, not-both, one-fault}
use Rattle.sfm_side.proofs.OneSaying.{pins-once}
use Rattle.sfm_side.proofs.laws.one_pair_of_pins.Goals as goal

pub returns-clause-once : goal.returns-clause-once
returns-clause-once c = λ names p q. one-reading (pins_form names) (pins-once names)
    c.args._text.now p q

pub returns-clause-not_both : goal.returns-clause-not_both
returns-clause-not_both c = λ names p line reason. not-both (pins_form names) (pins-once names)
    c.args._text.now p line reason

pub returns-clause-first : goal.returns-clause-first
returns-clause-first c = λ names line line' reason reason'. one-fault (pins_form names)
    (pins-once names) c.args._text.now line line' reason reason'
