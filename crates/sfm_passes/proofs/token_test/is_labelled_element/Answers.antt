use Rattle.sfm_lines.specs.ReadParts.{IsKnown}
use Rattle.sfm_passes.proofs.LongLabels.{element-by}
use Rattle.sfm_passes.proofs.token_test.is_labelled_element.Goals as goal

pub returns-in-Some : goal.returns-in-Some
returns-in-Some c =
    let (labels, is, are) = c.in-Some.ensures in
    element-by c.args.rank c.args.token.now c.in-Some.element.now labels is
    (IsKnown c.args.instance.now.names) c.is_known.result c.is_known.ensures

pub returns-in-None : goal.returns-in-None
returns-in-None c = λ (entry, is, known). c.in-None.ensures entry is
