-- What is left of a text's lines.
use Rattle.std.specs.Prelude.{ℕ, List, drop, map}
use Rattle.sfm_text.specs.declared.lines.Line.{Line}
use Rattle.sfm_text.specs.declared.lines.Lines.{Lines}
use Rattle.sfm_text.specs.Places.{TextLine, lines_from, content_among}

abbrev pub line_of : Line → TextLine
line_of line = record { number = line.number; start = line.start; bytes = line.bytes.now }

-- a line with its number, wherever it stands
abbrev pub numbered_line : TextLine → ℕ × List ℕ
numbered_line line = (line.number, line.bytes)

abbrev pub lines_left : Lines → List TextLine
lines_left lines = lines_from lines.number lines.at (drop lines.at lines.text.now)

-- the content lines that are still to come, with their places
abbrev pub placed_left : Lines → List TextLine
placed_left lines = content_among (lines_left lines)

-- the content lines that are still to come, with their numbers
abbrev pub content_left : Lines → List (ℕ × List ℕ)
content_left lines = map numbered_line (placed_left lines)

-- the whole text
abbrev pub text_of : Lines → List ℕ
text_of lines = lines.text.now

-- the number of the next line
abbrev pub next_number : Lines → ℕ
next_number lines = lines.number
