use Rattle.std.proofs.Common.{pos, refl}
use Rattle.sfm_weights.proofs.Texts.{weight-told}
use Rattle.sfm_weights.proofs.entry.is_weight.Goals as goal

pub returns-in-Some : goal.returns-in-Some
returns-in-Some c = λ entry h. weight-told c.weight.result entry.1 c.in-Some.text.now
    (c.in-Some.ensures entry h) c.weight.ensures c.is_some.result c.is_some.ensures

pub returns-in-None : goal.returns-in-None
returns-in-None c = λ entry h. rw (c.in-None.ensures entry h) (pos 1, refl)
