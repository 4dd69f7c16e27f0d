use Rattle.std.proofs.lemmas.Bool.{both_ways}
use Rattle.sfm_concave.proofs.Increments.{none_more}
use Rattle.sfm_concave.proofs.rise.first_rise.Goals as goal

pub loop-at-preserved : goal.loop-at-preserved
loop-at-preserved c = none_more c.args.values.now c.loop-at.at c.loop-at.invariant
    (λ r. both_ways c.rises.result c.if-rises.false (c.rises.ensures.1 r))
