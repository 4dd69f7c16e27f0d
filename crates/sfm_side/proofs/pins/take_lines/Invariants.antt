use Rattle.std.proofs.Common.{◌≡◌, length}
use Rattle.sfm_side.specs.Frame.{IsReadTo, left_of, text_in}
use Rattle.sfm_side.specs.Pins.{pins_form}
use Rattle.sfm_side.specs.PinLines.{pins_of, AreOver}
use Rattle.sfm_side.proofs.pins.take_lines.Given as goal

abbrev pub invariant-loop-line : goal.invariant-loop-line
invariant-loop-line l = record {
  read : IsReadTo (pins_form l.instance.names) l.text (left_of l.frame) (pins_of l.pins);
  whole : text_in l.frame ≡ l.text;
  over : AreOver (length l.instance.names) (pins_of l.pins);
}

abbrev pub decreases-loop-line : goal.decreases-loop-line
decreases-loop-line l = length (left_of l.frame)
