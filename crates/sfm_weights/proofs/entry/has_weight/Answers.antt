use Rattle.sfm_weights.proofs.Texts.{some-told}
use Rattle.sfm_weights.proofs.entry.has_weight.Goals as goal

pub returns : goal.returns
returns c = λ entry h. some-told c.weight_text.result c.is_some.result entry.1 c.is_some.ensures
    (c.weight_text.ensures entry h)
