use Rattle.std.proofs.Common.{◌≡◌, length}
use Rattle.sfm_text.specs.Cursor.{lines_left, placed_left, text_of}
use Rattle.sfm_text.proofs.lines.Lines.next_content.Given as goal

abbrev pub invariant-loop-line : goal.invariant-loop-line
invariant-loop-line l = record {
  content : placed_left l.self ≡ placed_left l.initial.self;
  text : text_of l.self ≡ text_of l.initial.self;
}

abbrev pub decreases-loop-line : goal.decreases-loop-line
decreases-loop-line l = length (lines_left l.self)
