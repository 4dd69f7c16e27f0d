-- No line of a text is longer than the text, and what stands behind the first token of a line has
-- no bad byte where the line has none.
use Rattle.std.proofs.Common.{◌≡◌, ℕ, ◌+◌, ◌-◌, ◌≤◌, ◌==◌, Bool, true, false, cond, List, [], ◌∷◌, ◌++◌, length, get_or, take, map, refl, subst, sym, ◌∙◌, arith, length-append}
use Rattle.std.specs.List.{All, Any, slice_split, onto_first, enumerate_from}
use Rattle.std.specs.Str.Lines.{strip_carriage_return}
use Rattle.std.proofs.lemmas.List.{get_or_at, get_or-append-add, length-take}
use Rattle.std.proofs.lemmas.List.Elements.{All-nil, All-cons, All-head, All-tail, All-weaker, All-map, All-filter}
use Rattle.sfm_lines.specs.Lines.{pieces_of, without_empty_last, lines_of, content_of}
use Rattle.sfm_lines.specs.Tokens.{IsFirstCut}
use Rattle.sfm_lines.specs.Reading.{IsBadByte}
use Rattle.sfm_text.specs.Standing.{is_content}

-- at most n bytes
abbrev IsShort : ℕ → List ℕ → Type 0
IsShort n line = length line ≤ n

abbrev AreShort : ℕ → List (List ℕ) → Type 0
AreShort n lines = All (IsShort n) lines

longer : (n m : ℕ) (lines : List (List ℕ)) → n ≤ m → AreShort n lines → AreShort m lines
longer n m lines le h = All-weaker (IsShort n) (IsShort m) (λ line short. omega (arith, short, le))
    lines h

onto-short : (n c : ℕ) (pieces : List (List ℕ)) → AreShort n pieces
    → AreShort (n + 1) (onto_first c pieces)
onto-short n c [] h = All-cons (IsShort (n + 1)) (c ∷ []) [] (omega arith)
    (All-nil (IsShort (n + 1)))
onto-short n c (piece ∷ pieces) h =
    let first : length piece ≤ n = All-head (IsShort n) piece pieces h in
    All-cons (IsShort (n + 1)) (c ∷ piece) pieces (omega (arith, first))
    (longer n (n + 1) pieces (omega arith) (All-tail (IsShort n) piece pieces h))

split-short : (n c : ℕ) (pieces : List (List ℕ)) → AreShort n pieces → (b : Bool)
    → AreShort (n + 1) (cond b ([] ∷ pieces) (onto_first c pieces))
split-short n c pieces h true =
    All-cons (IsShort (n + 1)) [] pieces (omega arith) (longer n (n + 1) pieces (omega arith) h)
split-short n c pieces h false = onto-short n c pieces h

pieces-short : (p : ℕ → Bool) (text : List ℕ) → AreShort (length text) (slice_split p text)
pieces-short p [] = All-cons (IsShort 0) [] [] (omega arith) (All-nil (IsShort 0))
pieces-short p (c ∷ text) =
    subst (λ n. AreShort n (slice_split p (c ∷ text))) (omega arith)
    (split-short (length text) c (slice_split p text) (pieces-short p text) (p c))

without-short : (n : ℕ) (pieces : List (List ℕ)) → AreShort n pieces
    → AreShort n (without_empty_last pieces)
without-short n [] h = h
without-short n ([] ∷ []) h = All-nil (IsShort n)
without-short n ((c ∷ piece) ∷ []) h = h
without-short n (piece ∷ next ∷ pieces) h =
    All-cons (IsShort n) piece (without_empty_last (next ∷ pieces))
    (All-head (IsShort n) piece (next ∷ pieces) h)
    (without-short n (next ∷ pieces) (All-tail (IsShort n) piece (next ∷ pieces) h))

strip-short : (n : ℕ) (line : List ℕ) → IsShort n line → IsShort n (strip_carriage_return line)
strip-short n line h = elim (get_or line (length line - 1) 0 == 13) as
    (λ b. length (cond b (take (length line - 1) line) line) ≤ n)
    [ true ↦ omega (arith, h, length-take (length line - 1) line) | false ↦ h ]

numbered-short : (n k : ℕ) (lines : List (List ℕ)) → AreShort n lines
    → All (λ (line : ℕ × List ℕ). IsShort n line.1) (enumerate_from k lines)
numbered-short n k [] h = All-nil (λ (line : ℕ × List ℕ). IsShort n line.1)
numbered-short n k (line ∷ lines) h =
    All-cons (λ (line : ℕ × List ℕ). IsShort n line.1) (k, line) (enumerate_from (k + 1) lines)
    (All-head (IsShort n) line lines h)
    (numbered-short n (k + 1) lines (All-tail (IsShort n) line lines h))

content-short : (text : List ℕ)
    → All (λ (line : ℕ × List ℕ). IsShort (length text) line.1) (content_of text)
content-short text =
    let n = length text in
    let pieces = without_empty_last (pieces_of 10 text) in
    let cut : AreShort n pieces = without-short n (pieces_of 10 text)
    (pieces-short (λ c. c == 10) text) in
    let stripped : AreShort n (map strip_carriage_return pieces) =
    All-map (IsShort n) strip_carriage_return pieces
    (All-weaker (IsShort n) (λ piece. IsShort n (strip_carriage_return piece)) (strip-short n)
    pieces cut) in
    All-filter is_content (λ (line : ℕ × List ℕ). IsShort n line.1) (lines_of text)
    (numbered-short n 1 (map strip_carriage_return pieces) stripped)

-- a content line of a text, with those before and behind it
pub line-short : (text : List ℕ) (done after : List (ℕ × List ℕ)) (line : ℕ × List ℕ)
    → content_of text ≡ done ++ line ∷ after → length line.1 ≤ length text
line-short text done after line is =
    let P = λ (l : ℕ × List ℕ). IsShort (length text) l.1 in
    let all : All P (done ++ line ∷ after) = subst (All P) is (content-short text) in
    let here = all (length done) line (omega (arith, length-append done (line ∷ after))) in
    subst P (get_or_at done line after line (length done) refl) here

-- what stands behind the first token of a line has no bad byte where the line has none
pub behind-good : (line token behind : List ℕ) → IsFirstCut line token behind
    → (Any IsBadByte line → ⊥) → Any IsBadByte behind → ⊥
behind-good line token behind cut good (k, c, lt, at, bad) =
    good (subst (Any IsBadByte) (sym cut.cut) (
      length cut.front + k,
      c,
      omega (arith, lt, length-append cut.front behind),
      get_or-append-add cut.front behind k c ∙ at,
      bad,
    ))
