use Rattle.std.proofs.Common.{◌≡◌, ◌+◌, ◌≤◌, ◌^◌, take, pos, ◌+ℤ◌, ◌*ℤ◌, ◌≤ℤ◌}
use Rattle.sfm_kind.specs.Instance.{support_of}
use Rattle.sfm_kind.specs.Limits.{total_size_of}
use Rattle.sfm_pair.proofs.clash.passes_at.Given as goal

-- the places and the sizes so far are those beside the terms and of the terms so far, and are not
-- too much
abbrev pub invariant-loop-i : goal.invariant-loop-i
invariant-loop-i l = record {
  places : l.all_places ≡ l.places + support_of (take l.i l.terms);
  sizes : l.all_size ≡ (l.size +ℤ pos 2 *ℤ total_size_of (take l.i l.terms));
  few : l.all_places ≤ 16384;
  small : l.all_size ≤ℤ pos (10 ^ 18);
}
