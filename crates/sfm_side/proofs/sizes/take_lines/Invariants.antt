use Rattle.std.proofs.Common.{◌≡◌, ◌^◌, length, map, pos, ◌≤ℤ◌}
use Rattle.sfm_spec.specs.Bounds.{total_of}
use Rattle.sfm_side.specs.Frame.{IsReadTo, left_of, text_in}
use Rattle.sfm_side.specs.Sizes.{sizes_form}
use Rattle.sfm_side.specs.SizeLines.{given_of, count_of, AreKept}
use Rattle.sfm_side.proofs.sizes.take_lines.Given as goal

abbrev pub invariant-loop-line : goal.invariant-loop-line
invariant-loop-line l = record {
  read : IsReadTo (sizes_form l.instance.names) l.text (left_of l.frame) (given_of l.kept);
  whole : text_in l.frame ≡ l.text;
  kept : AreKept (length l.instance.names) l.kept;
  small : total_of (map count_of l.kept) ≤ℤ pos (10 ^ 6);
}

abbrev pub decreases-loop-line : goal.decreases-loop-line
decreases-loop-line l = length (left_of l.frame)
