use Rattle.sfm_lines.specs.Lines.{tokens_of}
use Rattle.sfm_passes.proofs.LongReasons.{too-many-name, too-many-twice}
use Rattle.sfm_passes.proofs.long_rank.elements_reason.Goals as goal

pub returns-then-not-all_hold : goal.returns-then-not-all_hold
returns-then-not-all_hold c = λ word rest h. too-many-name c.args.instance.now word rest
    (tokens_of c.args.elements.now) h c.if-not-all_hold.ensures

pub returns : goal.returns
returns c = λ word rest h. too-many-twice c.args.instance.now word rest
    (tokens_of c.args.elements.now) h c.requires c.if-not-all_hold.ensures
