use Rattle.sfm_passes.proofs.LongLabels.{labels-by}
use Rattle.sfm_passes.proofs.token_test.has_named_labels.Goals as goal

pub returns-in-Some : goal.returns-in-Some
returns-in-Some c =
    let (labels, is, are) = c.in-Some.ensures in
    labels-by c.args.rank c.args.token.now c.in-Some.field-0-0.now labels is c.are_named.result
    (c.are_named.ensures labels are)

pub returns-in-None : goal.returns-in-None
returns-in-None c = λ entry is. absurd (c.in-None.ensures entry is)
