-- How a text is cut into lines, how a line is cut into tokens, and which lines count.
use Rattle.std.specs.Prelude.{ℕ, Bool, true, false, not, List, [], ◌∷◌, filter, map, ◌==◌, ◌||◌}
use Rattle.std.specs.Borrow.{Bor}
use Rattle.std.specs.List.{slice_split, enumerate_from}
use Rattle.std.specs.Str.Lines.{strip_carriage_return}

-- the pieces between the bytes b of a text, the first before the first of them and the last behind the last
abbrev pub pieces_of : ℕ → List ℕ → List (List ℕ)
pieces_of b text = slice_split (λ c. c == b) text

-- the pieces, but for a last one that is empty
abbrev pub without_empty_last : List (List ℕ) → List (List ℕ)
without_empty_last [] = []
without_empty_last ([] ∷ []) = []
without_empty_last ((c ∷ piece) ∷ []) = (c ∷ piece) ∷ []
without_empty_last (piece ∷ next ∷ pieces) = piece ∷ without_empty_last (next ∷ pieces)

-- the lines of a text, numbered from 1: what stands between line feeds, without a carriage return at its own end; what stands behind
-- the last line feed is a line where it is not empty
abbrev pub lines_of : List ℕ → List (ℕ × List ℕ)
lines_of text = enumerate_from 1 (map strip_carriage_return (without_empty_last (pieces_of 10 text)))

-- what tokens point to
abbrev pub texts_of : List (Bor (List ℕ)) → List (List ℕ)
texts_of tokens = map (λ token. token.now) tokens

-- what lists of tokens point to
abbrev pub text_lists_of : List (Bor (List (Bor (List ℕ)))) → List (List (List ℕ))
text_lists_of lists = map (λ list. texts_of list.now) lists

-- there is at least one byte
abbrev pub has_bytes : List ℕ → Bool
has_bytes [] = false
has_bytes (c ∷ piece) = true

-- the longest runs of bytes other than spaces and tabs
abbrev pub tokens_of : List ℕ → List (List ℕ)
tokens_of line = filter has_bytes (slice_split (λ c. (c == 32) || (c == 9)) line)

-- no tokens, or a first one that begins with `#`, as that of a comment does
abbrev pub are_skipped : List (List ℕ) → Bool
are_skipped [] = true
are_skipped ([] ∷ tokens) = false
are_skipped ((c ∷ token) ∷ tokens) = c == 35

-- the lines of a text that are neither blank nor comments
abbrev pub content_of : List ℕ → List (ℕ × List ℕ)
content_of text = filter (λ (number, line). not (are_skipped (tokens_of line))) (lines_of text)
