use Rattle.std.proofs.Common.{◌≡◌, ℕ, ◌<◌, ◌≤◌, length, get_or, pos, ◌+ℤ◌, ◌-ℤ◌}
use Rattle.sfm_laminar.specs.Crossing.{group_at}
use Rattle.sfm_laminar.specs.Slacks.{share_of}
use Rattle.sfm_laminar.proofs.laminar.Laminar.move_slacks.Given as goal

abbrev pub invariant-loop-i : goal.invariant-loop-i
invariant-loop-i l = record {
  places : length l.slacks ≡ length l.initial.slacks;
  done : (i : ℕ) → i < l.i → get_or l.slacks i
      (pos 0) ≡ ((get_or l.initial.slacks i (pos 0) -ℤ share_of (length l.self.places)
      (group_at l.self.groups i) l.swap.u l.swap.a) +ℤ share_of (length l.self.places)
      (group_at l.self.groups i) l.swap.v l.swap.a);
  rest : (i : ℕ) → l.i ≤ i → get_or l.slacks i (pos 0) ≡ get_or l.initial.slacks i (pos 0);
}
