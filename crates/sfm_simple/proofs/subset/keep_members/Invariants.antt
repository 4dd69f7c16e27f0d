use Rattle.std.proofs.Common.{◌≡◌, ℕ, ◌<◌, ◌≤◌, false, ◌&&◌, length, get_or}
use Rattle.sfm_simple.specs.Subsets.{members}
use Rattle.sfm_simple.proofs.subset.keep_members.Given as goal

abbrev pub invariant-loop-j : goal.invariant-loop-j
invariant-loop-j l = record {
  places : length l.to ≡ length l.initial.to;
  done : (k : ℕ) → k < l.j → get_or l.to k
      false ≡ (get_or l.initial.to k false && get_or (members (length l.initial.to) l.s) k false);
  left : (k : ℕ) → l.j ≤ k → get_or l.to k false ≡ get_or l.initial.to k false;
}
