use Rattle.sfm_passes.proofs.LongLabels.{edge-names, no-edge}
use Rattle.sfm_passes.proofs.token_test.are_ends.Goals as goal

pub returns-in-Some : goal.returns-in-Some
returns-in-Some c = edge-names c.args.text.now c.in-Some.tail.now c.in-Some.head.now
    c.in-Some.ensures c.are_both_names.result c.are_both_names.ensures

pub returns-in-None : goal.returns-in-None
returns-in-None c = λ labels are. absurd (no-edge c.args.text.now c.in-None.ensures labels are)
