use Rattle.std.proofs.lemmas.Int.{to_z-of_z}
use mir.Syntax.{w128}
use Rattle.sfm_concave.proofs.concave.Concave.is_within.Goals as goal

pub returns-then-x-le-FEW : goal.returns-then-x-le-FEW
returns-then-x-le-FEW c = simp (to_z-of_z w128 c.args.q c.ranges.q) at c.is_within_by.ensures

pub returns : goal.returns
returns c = simp (to_z-of_z w128 c.args.q c.ranges.q) at c.is_within_ranked.ensures
