use Rattle.std.proofs.Common.{sym, FitsSigned}
use Rattle.std.proofs.lemmas.Bool.{false≢true}
use Rattle.std.proofs.lemmas.Int.{to_z-of_z}
use mir.Syntax.{w128}
use Rattle.sfm_walk.proofs.walk.next_walk.Goals as goal

pub returns-then-branch : goal.returns-then-branch
returns-then-branch g c =
    let fq : FitsSigned w128 c.args.q = c.ranges.q in
    let o = c.in_ok-kept_walk.ensures in
    record {
      running = simp to_z-of_z at o.running;
      bases = o.bases;
      next = λ _. simp to_z-of_z at (o.next c.if-branch.true);
      ends = λ no. absurd (false≢true (sym no));
    }
