-- each place has what it had and what the places so far give it
use Rattle.std.proofs.Common.{◌≡◌, ℕ, ◌<◌, length, get_or, take, pos, ◌+ℤ◌}
use Rattle.sfm_spec.specs.Families.{entry_at}
use Rattle.sfm_law.proofs.rest.add_row.Given as goal

abbrev pub invariant-loop-j : goal.invariant-loop-j
invariant-loop-j l = (e : ℕ) → e < length l.z
    → get_or l.z e (pos 0) ≡ (get_or l.initial.z e (pos 0) +ℤ entry_at (take l.j l.places) l.row e)
