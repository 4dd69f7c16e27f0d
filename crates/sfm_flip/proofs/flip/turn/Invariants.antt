-- the numbers before the place are turned, and the others are as they were
use Rattle.std.proofs.Common.{◌≡◌, ℕ, ◌<◌, ◌≤◌, get_or, pos, neg_ℤ}
use Rattle.sfm_flip.proofs.flip.turn.Given as goal

abbrev pub invariant-loop-a : goal.invariant-loop-a
invariant-loop-a l = record {
  done : (i : ℕ) → i < l.a-index → get_or l.x i (pos 0) ≡ neg_ℤ (get_or l.initial.x i (pos 0));
  rest : (i : ℕ) → l.a-index ≤ i → get_or l.x i (pos 0) ≡ get_or l.initial.x i (pos 0);
}
