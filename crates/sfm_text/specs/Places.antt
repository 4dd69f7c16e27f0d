-- The lines of a text with the places in it at which they stand.
use Rattle.std.specs.Prelude.{◌≡◌, ℕ, ◌+◌, ◌≤◌, not, List, [], ◌∷◌, length, filter, slice_range}
use Rattle.std.specs.Str.Lines.{strip_carriage_return}
use Rattle.sfm_lines.specs.Lines.{pieces_of, without_empty_last, tokens_of, are_skipped}

-- a line of a text: its number, counted from 1, the place in the text at which it begins, and its
-- bytes
pub record TextLine : Type 0 where
  pub number : ℕ
  pub start : ℕ
  pub bytes : List ℕ

-- a line for each piece: each is numbered by one more than the one before, begins behind the byte
-- at which that one ends, and does not hold a carriage return at its own end
abbrev pub placed_from : ℕ → ℕ → List (List ℕ) → List TextLine
placed_from number start [] = []
placed_from number start (piece ∷ pieces) =
    record { number = number; start = start; bytes = strip_carriage_return piece } ∷ placed_from
    (number + 1) (start + length piece + 1) pieces

-- the lines of a text, the first of which has that number and begins at that place
abbrev pub lines_from : ℕ → ℕ → List ℕ → List TextLine
lines_from number start text = placed_from number start (without_empty_last (pieces_of 10 text))

-- what stands between line feeds; what stands behind the last of them is a line where it is not
-- empty
abbrev pub placed_lines : List ℕ → List TextLine
placed_lines text = lines_from 1 0 text

-- the lines that are neither blank nor comments
abbrev pub content_among : List TextLine → List TextLine
content_among lines = filter (λ line. not (are_skipped (tokens_of line.bytes))) lines

-- the lines of a text that are neither blank nor comments
abbrev pub placed_content : List ℕ → List TextLine
placed_content text = content_among (placed_lines text)

-- the number of a line, and the places in the text at which it begins and ends
abbrev pub span_of : TextLine → ℕ × ℕ × ℕ
span_of line = (line.number, line.start, line.start + length line.bytes)

-- the line stands in the text where it says
pub record LiesIn (text : List ℕ) (line : TextLine) : Type 0 where
  pub within : line.start + length line.bytes ≤ length text
  pub bytes : slice_range text line.start (line.start + length line.bytes) ≡ line.bytes
