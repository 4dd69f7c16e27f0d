use Rattle.std.proofs.Common.{◌≡◌, List, ◌++◌, map, length}
use Rattle.std.specs.List.{All}
use Rattle.sfm_text.specs.Places.{TextLine, span_of, placed_content, LiesIn}
use Rattle.sfm_text.specs.Cursor.{placed_left, text_of}
use Rattle.sfm_text.proofs.lines.content_lines.Given as goal

abbrev pub invariant-loop-line : goal.invariant-loop-line
invariant-loop-line l = record {
  text : text_of l.lines ≡ l.text;
  done : List TextLine;
  left : placed_content l.text ≡ done ++ placed_left l.lines;
  spans : l.spans.items ≡ map span_of done;
  placed : All (LiesIn l.text) done;
}

abbrev pub decreases-loop-line : goal.decreases-loop-line
decreases-loop-line l = length (placed_left l.lines)
