-- The first line of a text, and the lines behind it.
use Rattle.std.proofs.Common.{◌≡◌, ℕ, ◌+◌, ◌-◌, ◌<◌, ◌≤◌, List, [], ◌∷◌, length, get_or, take, drop, min, true, false, Bool, cond, refl, sym, ap, ◌∙◌, arith, ◌⊎◌, inl, inr}
use Rattle.std.specs.Prelude.{◌==◌}
use Rattle.std.specs.List.{position_or_len, slice_split}
use Rattle.std.specs.Str.Lines.{strip_carriage_return}
use Rattle.std.proofs.lemmas.Bool.{cases_lt}
use Rattle.std.proofs.lemmas.List.{take_all, drop_all, length-take, length-drop, drop-drop, take-take}
use Rattle.std.proofs.lemmas.List.Splits.{slice_split_first, length-slice_split}
use Rattle.sfm_lines.specs.Lines.{without_empty_last}
use Rattle.sfm_lines.proofs.Cuts.{split-none}
use Rattle.sfm_text.specs.Places.{placed_from, lines_from, LiesIn}

-- where a line ends
abbrev end_of : List ℕ → ℕ
end_of text = position_or_len (λ c. c == 10) text

-- a piece that is not the last stays
pub without_empty_last-cons : (piece : List ℕ) (pieces : List (List ℕ)) → 0 < length pieces
    → without_empty_last (piece ∷ pieces) ≡ piece ∷ without_empty_last pieces
without_empty_last-cons piece [] h = absurd (omega arith)
without_empty_last-cons [] (next ∷ pieces) h = refl
without_empty_last-cons (c ∷ piece) (next ∷ pieces) h = refl

-- one piece that is not empty stays
pub without_empty_last-one : (piece : List ℕ) → 0 < length piece
    → without_empty_last (piece ∷ []) ≡ piece ∷ []
without_empty_last-one [] h = absurd (omega arith)
without_empty_last-one (c ∷ piece) h = refl

-- the first line, which ends at the place e, and the lines from the place m on
pub record IsCut (rest : List ℕ) (e m : ℕ) : Type 0 where
  pub end : e ≡ end_of rest
  pub next : m ≡ min (length rest) (e + 1)

pub lines_from-next : (n a e m : ℕ) (rest : List ℕ) → 0 < length rest → IsCut rest e m
    → lines_from n a rest ≡ record {
      number = n;
      start = a;
      bytes = strip_carriage_return (take e rest);
    } ∷ lines_from (n + 1) (a + m) (drop m rest)
lines_from-next n a e m rest some cut = at (cases_lt e (length rest))
  where
    p : ℕ → Bool
    p = λ c. c == 10

    at : (e < length rest) ⊎ (length rest ≤ e)
        → lines_from n a rest ≡ record {
          number = n;
          start = a;
          bytes = strip_carriage_return (take e rest);
        } ∷ lines_from (n + 1) (a + m) (drop m rest)
    at (inl lt) =
        let found : end_of rest < length rest = omega (arith, cut.end) in
        let first = slice_split_first (λ c. c == 10) rest 0 found in
        let next : m ≡ end_of rest + 1 = omega (arith, cut.end, cut.next) in
        let len : length (take (end_of rest) rest) ≡ end_of
        rest = omega (arith, length-take (end_of rest) rest) in
        let more = slice_split (λ c. c == 10) (drop (end_of rest + 1) rest) in
        let kept = without_empty_last-cons (take (end_of rest) rest) more
        (omega (arith, length-slice_split (λ c. c == 10) (drop (end_of rest + 1) rest))) in
        rw (cut.end, next, first, kept)
        (ap (λ k. record {
          number = n;
          start = a;
          bytes = strip_carriage_return (take (end_of rest) rest);
        } ∷ placed_from (n + 1) k
        (without_empty_last more)) (omega (arith, len)))
    at (inr ge) =
        let none = split-none (λ c. c == 10) rest (omega (arith, cut.end)) in
        let next : m ≡ length rest = omega (arith, cut.end, cut.next) in
        let all : take e rest ≡ rest = take_all e rest ge in
        rw (
          next,
          none,
          without_empty_last-one rest some,
          all,
          drop_all (length rest) rest (omega arith),
        ) refl

-- the first line of what is left of a text, from the place at on
pub lines_from-at : (text : List ℕ) (n at e m : ℕ) (line rest : List ℕ) → rest ≡ drop at text
    → 0 < length rest → e ≡ end_of rest → m ≡ min (length rest) (e + 1)
    → line ≡ strip_carriage_return (take e rest)
    → lines_from n at (drop at text) ≡ record { number = n; start = at; bytes = line } ∷ lines_from
    (n + 1) (at + m) (drop (at + m) text)
lines_from-at text n at e m line rest is some end next strip =
    let first = lines_from-next n at e m rest some (record { end = end; next = next }) in
    rw (← is, strip, ← drop-drop m at text, ← is) first

strip-take : (line : List ℕ) → strip_carriage_return line ≡ take
    (length (strip_carriage_return line)) line
strip-take line = elim (get_or line (length line - 1) 0 == 13) as
    (λ b. cond b (take (length line - 1) line) line ≡ take
    (length (cond b (take (length line - 1) line) line)) line) [
      | true ↦ shorter (length line - 1) line
      | false ↦ sym
          (take_all (length line) line (omega arith))
    ]
  where
    shorter : (k : ℕ) (line : List ℕ) → take k line ≡ take (length (take k line)) line
    shorter k line = rw length-take (at (cases_lt k (length line)))
      where
        at : (k < length line) ⊎ (length line ≤ k) → take k line ≡ take (min k (length line)) line
        at (inl lt) = ap (λ n. take n line) (omega arith)
        at (inr ge) = take_all k line ge ∙ sym (take_all (min k (length line)) line (omega arith))

strip-short : (line : List ℕ) → length (strip_carriage_return line) ≤ length line
strip-short line = omega (
  arith,
  ap length (strip-take line),
  length-take (length (strip_carriage_return line)) line,
)

-- a line lies in the text where it begins
pub lies-at : (text : List ℕ) (n at e : ℕ) (line rest : List ℕ) → rest ≡ drop at text
    → at ≤ length text → line ≡ strip_carriage_return (take e rest)
    → LiesIn text (record { number = n; start = at; bytes = line })
lies-at text n at e line rest is within strip =
    let k : ℕ = length line in
    let short : length line ≤ length
    (take e rest) = omega (arith, ap length strip, strip-short (take e rest)) in
    let front : line ≡ take (length line) (take e rest) = strip
    ∙ (strip-take (take e rest) ∙ ap (λ (l : List ℕ). take (length l) (take e rest))
    (sym strip)) in
    let few : length line ≤ e = omega (arith, length-take e rest) in
    record {
      within = omega (arith, ap length is, length-drop at text, length-take e rest);
      bytes = rw (← is) (ap (λ j. take j rest) (omega arith)
          ∙ (sym (take-take (length line) e rest few) ∙ sym front));
    }
