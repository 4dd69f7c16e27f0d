-- Lines that are so many numbers and then elements, and those that are numbers, a colon and
-- elements, by the counts of either.
use Rattle.std.proofs.Common.{◌≡◌, ℕ, ◌-◌, ◌<◌, ◌≤◌, List, length, take, drop, Bor, Option, Some, None, MatchOption, refl, ◌∙◌, arith}
use Rattle.std.specs.List.{Any}
use Rattle.std.proofs.lemmas.List.{length-map, length-take, length-drop, take-map, drop-map, take_rest}
use Rattle.sfm_lines.specs.Parts.{LineParts, plain_parts, IsSeparator, HaveNoSeparator, IsCutAtColon, IsColonLine}
use Rattle.sfm_lines.specs.CutParts.{AreCounts, IsSplitLine}
use Rattle.sfm_lines.specs.Lines.{texts_of}
use Rattle.sfm_lines.specs.Words.{HasParts}
use Rattle.sfm_lines.specs.declared.word.TermWord.{TermWord}
use Rattle.sfm_lines.specs.declared.word.TermWord.TheVariants.{CutWord, NeedWord, CoverWord}
use Rattle.sfm_lines.proofs.Colons.{none-any, other-counts}

-- what is told of tokens by one definition of a line is told by another that says the same
same-line : {P : Type 0} (f : P → LineParts) (IsLine IsOther : LineParts → Type 0)
    → ((parts : LineParts) → IsLine parts → IsOther parts)
    → ((parts : LineParts) → IsOther parts → IsLine parts) → (r : Option P)
    → MatchOption r ((parts : LineParts) → IsLine parts → ⊥) (λ parts. IsLine (f parts))
    → MatchOption r ((parts : LineParts) → IsOther parts → ⊥) (λ parts. IsOther (f parts))
same-line f IsLine IsOther there back None h = λ parts other. h parts (back parts other)
same-line f IsLine IsOther there back (Some parts) h = there (f parts) h

module _ {P : Type 0} (f : P → LineParts) (tokens : List (List ℕ)) (r : Option P) where
  pub cut-line : MatchOption r ((parts : LineParts) → IsSplitLine CutWord 1 tokens parts → ⊥)
      (λ parts. IsSplitLine CutWord 1 tokens (f parts))
      → MatchOption r ((parts : LineParts) → HasParts CutWord tokens parts → ⊥)
      (λ parts. HasParts CutWord tokens (f parts))
  cut-line h = same-line f (IsSplitLine CutWord 1 tokens) (HasParts CutWord tokens)
      (λ parts (within, counts, split). (omega (arith, within, counts.1), split))
      (λ parts (three, split). (omega (arith, three), (refl, omega (arith, three)), split)) r h

  pub need-line : MatchOption r ((parts : LineParts) → IsSplitLine NeedWord 0 tokens parts → ⊥)
      (λ parts. IsSplitLine NeedWord 0 tokens (f parts))
      → MatchOption r ((parts : LineParts) → HasParts NeedWord tokens parts → ⊥)
      (λ parts. HasParts NeedWord tokens (f parts))
  need-line h = same-line f (IsSplitLine NeedWord 0 tokens) (HasParts NeedWord tokens)
      (λ parts (within, counts, split). (omega (arith, within, counts.1), split))
      (λ parts (two, split). (omega (arith, two), (refl, omega (arith, two)), split)) r h

  pub cover-line : MatchOption r ((parts : LineParts) → IsSplitLine CoverWord 1 tokens parts → ⊥)
      (λ parts. IsSplitLine CoverWord 1 tokens (f parts))
      → MatchOption r ((parts : LineParts) → HasParts CoverWord tokens parts → ⊥)
      (λ parts. HasParts CoverWord tokens (f parts))
  cover-line h = same-line f (IsSplitLine CoverWord 1 tokens) (HasParts CoverWord tokens)
      (λ parts (within, counts, split). (omega (arith, within, counts.0), split))
      (λ parts (most, split). (omega (arith, most), (omega (arith, most), refl), split)) r h

-- the parts that are cut off before and behind a place
split-at : (tokens : List (Bor (List ℕ))) (count : ℕ)
    → plain_parts (texts_of (take count tokens))
    (texts_of (take (length tokens - count) (drop count tokens))) ≡ plain_parts
    (take count (texts_of tokens)) (drop count (texts_of tokens))
split-at tokens count =
    let now : Bor (List ℕ) → List ℕ = λ t. t.now in
    rw (take_rest tokens count, take-map now count tokens, drop-map now count tokens) refl

-- numbers and elements in the counts of the word, or none
abbrev pub IsCounted : {P : Type 0} → (P → LineParts) → TermWord → List (Bor (List ℕ))
    → List (Bor (List ℕ)) → Option P → Type 0
IsCounted f word numbers elements r =
    MatchOption r (AreCounts word (length numbers) (length elements) → ⊥)
    (λ parts. AreCounts word (length numbers) (length elements)
    × (f parts ≡ plain_parts (texts_of numbers) (texts_of elements)))

pub colon-counted : {P : Type 0} (f : P → LineParts) (word : TermWord)
    (tokens numbers elements : List (Bor (List ℕ)))
    → IsCutAtColon (texts_of tokens) (texts_of numbers) (texts_of elements) → (r : Option P)
    → IsCounted f word numbers elements r
    → MatchOption r ((parts : LineParts) → IsColonLine (AreCounts word) (texts_of tokens) parts → ⊥)
    (λ parts. IsColonLine (AreCounts word) (texts_of tokens) (f parts))
colon-counted f word tokens numbers elements cut None none =
    other-counts (AreCounts word) tokens numbers elements cut none
colon-counted f word tokens numbers elements cut (Some parts) (counts, is) = (
  texts_of numbers,
  texts_of elements,
  cut,
  rw (
    length-map numbers (λ (t : Bor (List ℕ)). t.now),
    length-map elements (λ (t : Bor (List ℕ)). t.now),
  ) counts,
  is,
)

pub split-counted : {P : Type 0} (f : P → LineParts) (word : TermWord) (count : ℕ)
    (tokens : List (Bor (List ℕ))) → count ≤ length tokens → HaveNoSeparator (texts_of tokens)
    → (r : Option P) → IsCounted f word (take count tokens)
    (take (length tokens - count) (drop count tokens)) r
    → MatchOption r ((parts : LineParts) → IsSplitLine word count (texts_of tokens) parts → ⊥)
    (λ parts. IsSplitLine word count (texts_of tokens) (f parts))
split-counted {P} f word count tokens within unmarked r h = at r (rw (first, rest) at h)
  where
    now : Bor (List ℕ) → List ℕ
    now t = t.now

    all : length (texts_of tokens) ≡ length tokens
    all = length-map tokens now

    first : length (take count tokens) ≡ count
    first = omega (arith, length-take count tokens, within)

    rest : length (take (length tokens - count) (drop count tokens)) ≡ length
        (texts_of tokens) - count
    rest = omega (
      arith,
      length-take (length tokens - count) (drop count tokens),
      length-drop count tokens,
      all,
    )

    at : (r : Option P) → MatchOption r
        (AreCounts word count (length (texts_of tokens) - count) → ⊥)
        (λ parts. AreCounts word count (length (texts_of tokens) - count)
        × (f parts ≡ plain_parts (texts_of (take count tokens))
        (texts_of (take (length tokens - count) (drop count tokens)))))
        → MatchOption r ((parts : LineParts) → IsSplitLine word count (texts_of tokens) parts → ⊥)
        (λ parts. IsSplitLine word count (texts_of tokens) (f parts))
    at None none = λ parts (fits, counts, split). none counts
    at (Some parts) (counts, is) = (
      omega (arith, within, all),
      counts,
      record { unmarked = unmarked; parts_are = is ∙ split-at tokens count },
    )

-- tokens that are too few, or have a separator, are no such line
pub split-few : (word : TermWord) (count : ℕ) (tokens : List (Bor (List ℕ))) → length tokens < count
    → (parts : LineParts) → IsSplitLine word count (texts_of tokens) parts → ⊥
split-few word count tokens few parts (fits, counts, split) =
    absurd (omega (arith, few, fits, length-map tokens (λ (t : Bor (List ℕ)). t.now)))

pub split-marked : (word : TermWord) (count : ℕ) (tokens : List (List ℕ)) → Any IsSeparator tokens
    → (parts : LineParts) → IsSplitLine word count tokens parts → ⊥
split-marked word count tokens any parts (fits, counts, split) =
    none-any IsSeparator tokens split.unmarked any
