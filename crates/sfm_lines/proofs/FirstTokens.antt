-- The first token of a line, and the tokens behind it.
use Rattle.std.proofs.Common.{◌≡◌, ℕ, ◌+◌, ◌-◌, ◌<◌, ◌≤◌, List, [], ◌∷◌, length, take, drop, refl, ap, ◌∙◌, arith}
use Rattle.std.specs.List.{position_or_len, slice_split, filter}
use Rattle.std.proofs.lemmas.List.{length-take, drop_all}
use Rattle.std.proofs.lemmas.List.Splits.{slice_split_first}
use Rattle.sfm_lines.specs.Lines.{has_bytes, tokens_of}
use Rattle.sfm_lines.specs.Tokens.{is_blank}
use Rattle.sfm_lines.proofs.Cuts.{split-none, rest-is}

kept : (piece : List ℕ) (pieces : List (List ℕ)) → 0 < length piece
    → filter has_bytes (piece ∷ pieces) ≡ piece ∷ filter has_bytes pieces
kept [] pieces some = absurd (omega (arith, some))
kept (c ∷ piece) pieces some = refl

passed : (piece : List ℕ) (pieces : List (List ℕ)) → length piece ≡ 0
    → filter has_bytes (piece ∷ pieces) ≡ filter has_bytes pieces
passed [] pieces none = refl
passed (c ∷ piece) pieces none = absurd (omega (arith, none))

-- the line is cut at its first blank
cut-blank : (line : List ℕ) (e : ℕ) → e ≡ position_or_len is_blank line → e < length line
    → tokens_of line ≡ filter has_bytes (take e line ∷ slice_split is_blank (drop (e + 1) line))
cut-blank line e end lt = rw end
    (ap (λ (l : List (List ℕ)). filter has_bytes l)
    (slice_split_first is_blank line 0 (omega (arith, end, lt))))

-- a blank behind the first token
pub token-first : (line : List ℕ) (e : ℕ) → e ≡ position_or_len is_blank line → e < length line
    → 0 < e → tokens_of line ≡ take e line ∷ tokens_of
    (take (length line - (e + 1)) (drop (e + 1) line))
token-first line e end lt some =
    rw (rest-is line (e + 1) (omega (arith, lt)))
    (cut-blank line e end lt ∙ kept (take e line) (slice_split is_blank (drop (e + 1) line))
    (omega (arith, some, lt, length-take e line)))

-- a blank at the beginning
pub token-behind : (line : List ℕ) (e : ℕ) → e ≡ position_or_len is_blank line → e < length line
    → e ≤ 0 → tokens_of line ≡ tokens_of (take (length line - (e + 1)) (drop (e + 1) line))
token-behind line e end lt none =
    rw (rest-is line (e + 1) (omega (arith, lt)))
    (cut-blank line e end lt ∙ passed (take e line) (slice_split is_blank (drop (e + 1) line))
    (omega (arith, none, length-take e line)))

-- no blank
pub token-last : (line : List ℕ) (e : ℕ) → e ≡ position_or_len is_blank line → length line ≤ e
    → 0 < length line → tokens_of line ≡ line ∷ tokens_of
    (take (length line - length line) (drop (length line) line))
token-last line e end ge some =
    let one = ap (λ (l : List (List ℕ)). filter has_bytes l)
    (split-none is_blank line (omega (arith, end, ge))) ∙ kept line [] some in
    let none : take (length line - length line) (drop (length line) line) ≡ [] = rest-is line
    (length line) (omega arith) ∙ drop_all (length line) line (omega arith) in
    rw none one

-- no byte
pub token-none : (line : List ℕ) → length line ≤ 0 → tokens_of line ≡ []
token-none [] none = refl
token-none (c ∷ line) none = absurd (omega (arith, none))
