-- The lines of a text with their places are its lines.
use Rattle.std.proofs.Common.{◌≡◌, ℕ, ◌+◌, true, false, cond, List, [], ◌∷◌, length, map, refl, sym, ap, ◌∙◌}
use Rattle.std.specs.Prelude.{filter}
use Rattle.std.specs.List.{enumerate_from}
use Rattle.std.specs.Str.Lines.{strip_carriage_return}
use Rattle.std.proofs.lemmas.List.{length-map}
use Rattle.sfm_lines.specs.Lines.{pieces_of, without_empty_last, lines_of, content_of}
use Rattle.sfm_text.specs.Places.{TextLine, placed_from, placed_lines, placed_content, content_among}
use Rattle.sfm_text.specs.Standing.{is_content}
use Rattle.sfm_text.specs.Cursor.{numbered_line}

numbered-content : (lines : List TextLine)
    → map numbered_line (content_among lines) ≡ filter is_content (map numbered_line lines)
numbered-content [] = refl
numbered-content (line ∷ lines) =
    elim (is_content (numbered_line line)) as
    (λ b. map numbered_line (cond b (line ∷ content_among lines) (content_among lines)) ≡ cond b
    (numbered_line line ∷ filter is_content (map numbered_line lines))
    (filter is_content (map numbered_line lines))) [
      | true ↦ ap (λ (more : List (ℕ × List ℕ)). numbered_line line ∷ more) (numbered-content lines)
      | false ↦ numbered-content lines
    ]

numbered-from : (number start : ℕ) (pieces : List (List ℕ))
    → map numbered_line (placed_from number start pieces) ≡ enumerate_from number
    (map strip_carriage_return pieces)
numbered-from number start [] = refl
numbered-from number start (piece ∷ pieces) =
    ap (λ (more : List (ℕ × List ℕ)). (number, strip_carriage_return piece) ∷ more)
    (numbered-from (number + 1) (start + length piece + 1) pieces)

-- the content lines, with their numbers
pub content-placed : (text : List ℕ) → map numbered_line (placed_content text) ≡ content_of text
content-placed text = numbered-content (placed_lines text)
    ∙ ap (filter is_content) (numbered-from 1 0 (without_empty_last (pieces_of 10 text)))

-- as many lines
pub count-placed : (text : List ℕ) → length (placed_lines text) ≡ length (lines_of text)
count-placed text = sym (length-map (placed_lines text) numbered_line)
    ∙ ap length (numbered-from 1 0 (without_empty_last (pieces_of 10 text)))
