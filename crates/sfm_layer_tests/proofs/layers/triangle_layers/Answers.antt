use Rattle.std.proofs.lemmas.Result.{IfOk-weaker}
use Rattle.sfm_kind.specs.Layers.{AreLayers}
use Rattle.sfm_layer_tests.specs.Weighed.{AreThreeWeighed, three_weights}
use Rattle.sfm_layer_tests.proofs.layers.triangle_layers.Goals as goal

pub returns : goal.returns
returns c =
    let rank = c.in_ok-rank.rank in
    IfOk-weaker c.made.result (λ r. AreLayers rank three_weights r) (λ r. AreThreeWeighed r)
    (λ r are. (rank, c.in_ok-rank.ensures, are)) c.made.ensures
