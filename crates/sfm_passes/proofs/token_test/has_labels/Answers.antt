use Rattle.std.proofs.Common.{refl}
use Rattle.sfm_passes.proofs.LongLabels.{edge-by}
use Rattle.sfm_passes.proofs.token_test.has_labels.Goals as goal

pub returns-in-GraphicRank : goal.returns-in-GraphicRank
returns-in-GraphicRank c = rw c.in-GraphicRank.is
    (edge-by c.args.text.now c.has_once.result c.has_once.ensures)

pub returns-in-TransversalRank : goal.returns-in-TransversalRank
returns-in-TransversalRank c = rw c.in-TransversalRank.is (_, refl)
