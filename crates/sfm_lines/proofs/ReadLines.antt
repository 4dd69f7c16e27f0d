-- What has been read of a line makes the term of its word.
use Rattle.std.proofs.Common.{◌≡◌, ℕ, ◌+◌, ◌-◌, ◌<◌, ◌≤◌, ◌^◌, List, [], ◌∷◌, length, get_or, min, codes, ℤ, pos, ◌≤ℤ◌, to_z, of_z, refl, sym, ap, subst, inl, inr, ◌∙◌, arith}
use Rattle.std.specs.Int.{w128}
use Rattle.std.proofs.lemmas.Int.{ints}
use Rattle.std.specs.List.{All}
use Rattle.std.proofs.lemmas.List.{length-map, length-take, length-drop}
use Rattle.std.proofs.lemmas.List.Elements.{All-map}
use Rattle.sfm_spec.specs.Bounds.{IsAtMost}
use Rattle.sfm_kind.specs.declared.version.Version.TheVariants.{Second}
use Rattle.sfm_lines.specs.Parts.{LineParts, IsPairToken, IsSplitAt, IsColonLine, IsRankLine, IsUniformLine, IsLaminarLine, IsLabelToken, IsLabelledLine}
use Rattle.sfm_lines.specs.CutParts.{AreCounts}
use Rattle.sfm_lines.specs.Words.{lowest_of, HasParts}
use Rattle.sfm_lines.specs.TermLines.{AreRead, IsNumberFor}
use Rattle.sfm_lines.specs.ReadParts.{AreGiven}
use Rattle.sfm_lines.specs.declared.word.RankKind.{RankKind}
use Rattle.sfm_lines.specs.declared.word.RankKind.TheVariants.{UniformRank, LaminarRank, GraphicRank, TransversalRank}
use Rattle.sfm_lines.specs.declared.word.TermWord.{TermWord}
use Rattle.sfm_lines.specs.declared.word.TermWord.TheVariants.{WeightWord, CutWord, NeedWord, CoverWord, TableWord, ConcaveWord, RankWord}
use Rattle.sfm_lines.proofs.Matches.{length-AllZip, All-AllZip}
use Rattle.sfm_lines.proofs.Numbers.{low-number, small-number}
use Rattle.sfm_lines.proofs.Ranks.{IsLineOfRank, line-of-rank}

-- a list of one and a list of two
one-value : (values : List ℤ) (d : ℤ) → length values ≡ 1 → get_or values 0 d ∷ [] ≡ values
one-value [] d h = absurd (omega (arith, h))
one-value (a ∷ []) d h = refl
one-value (a ∷ b ∷ values) d h = absurd (omega (arith, h))

pub kept-value : (values : List ℤ) → length values ≡ 1 → All (IsAtMost (10 ^ 15)) values
    → to_z w128 (of_z w128 (get_or values 0 (pos 0))) ∷ [] ≡ values
kept-value values one small =
    let s = small 0 (pos 0) (omega (arith, one)) in
    let kept : to_z w128 (of_z w128 (get_or values 0 (pos 0))) ≡ get_or values 0
    (pos 0) = omega (arith, ints, s.low, s.high) in
    ap (λ (a : ℤ). a ∷ []) kept ∙ one-value values (pos 0) one

pub two-places : (places : List ℕ) (d e : ℕ) → length places ≡ 2
    → get_or places 0 d ∷ get_or places 1 e ∷ [] ≡ places
two-places [] d e h = absurd (omega (arith, h))
two-places (a ∷ []) d e h = absurd (omega (arith, h))
two-places (a ∷ b ∷ []) d e h = refl
two-places (a ∷ b ∷ c ∷ places) d e h = absurd (omega (arith, h))

-- how many parts there are of either kind
split-numbers : (count : ℕ) (tokens : List (List ℕ)) (parts : LineParts)
    → IsSplitAt count tokens parts → length parts.numbers ≡ min count (length tokens)
split-numbers count tokens parts h = ap (λ (p : LineParts). length p.numbers) h.parts_are
    ∙ length-take count tokens

split-elements : (count : ℕ) (tokens : List (List ℕ)) (parts : LineParts)
    → IsSplitAt count tokens parts → length parts.elements ≡ length tokens - count
split-elements count tokens parts h = ap (λ (p : LineParts). length p.elements) h.parts_are
    ∙ length-drop count tokens

labelled-count : (rank : RankKind) (word : List ℕ) (tokens : List (List ℕ)) (parts : LineParts)
    → IsLabelledLine rank word tokens parts → 1 ≤ length parts.elements
labelled-count rank word tokens parts h =
    let elements : length parts.elements ≡ length
    h.entries = ap (λ (p : LineParts). length p.elements) h.parts_are
    ∙ length-map h.entries (λ (e : List ℕ × List (List ℕ)). e.0) in
    omega (arith, h.some, elements, length-AllZip (IsLabelToken rank) h.behind h.entries h.each)

rank-count : (tokens : List (List ℕ)) (parts : LineParts) → IsRankLine tokens parts
    → 1 ≤ length parts.elements
rank-count tokens parts (inl h) =
    omega (arith, h.some, ap (λ (p : LineParts). length p.elements) h.parts_are)
rank-count tokens parts (inr (inl h)) =
    omega (arith, h.some, ap (λ (p : LineParts). length p.elements) h.parts_are)
rank-count tokens parts (inr (inr (inl h))) =
    labelled-count GraphicRank (codes "graphic") tokens parts h
rank-count tokens parts (inr (inr (inr h))) =
    labelled-count TransversalRank (codes "transversal") tokens parts h

colon-counts : (AreSuch : ℕ → ℕ → Type 0) (tokens : List (List ℕ)) (parts : LineParts)
    → IsColonLine AreSuch tokens parts → AreSuch (length parts.numbers) (length parts.elements)
colon-counts AreSuch tokens parts h =
    let numbers : length parts.numbers ≡ length h.0 = ap (λ (p : LineParts). length p.numbers)
    h.4 in
    let elements : length parts.elements ≡ length h.1 = ap (λ (p : LineParts). length p.elements)
    h.4 in
    rw (numbers, elements) h.3

line-counts : (word : TermWord) (tokens : List (List ℕ)) (parts : LineParts)
    → HasParts word tokens parts → AreCounts word (length parts.numbers) (length parts.elements)
line-counts WeightWord tokens parts h =
    let numbers : length parts.numbers ≡ length h.pairs = ap (λ (p : LineParts). length p.numbers)
    h.parts_are ∙ length-map h.pairs (λ (p : List ℕ × List ℕ). p.1) in
    let elements : length parts.elements ≡ length
    h.pairs = ap (λ (p : LineParts). length p.elements) h.parts_are
    ∙ length-map h.pairs (λ (p : List ℕ × List ℕ). p.0) in (
      omega (arith, h.some, elements, length-AllZip IsPairToken tokens h.pairs h.each),
      numbers ∙ sym elements,
    )
line-counts CutWord tokens parts h = (
  omega (arith, split-numbers 1 tokens parts h.1, h.0),
  omega (arith, split-elements 1 tokens parts h.1, h.0),
)
line-counts NeedWord tokens parts h = (
  omega (arith, split-numbers 0 tokens parts h.1),
  omega (arith, split-elements 0 tokens parts h.1, h.0),
)
line-counts CoverWord tokens parts h = (
  omega (arith, split-elements 1 tokens parts h.1, h.0),
  omega (arith, split-numbers 1 tokens parts h.1, h.0),
)
line-counts TableWord tokens parts h = colon-counts (AreCounts TableWord) tokens parts h
line-counts ConcaveWord tokens parts h = colon-counts (AreCounts ConcaveWord) tokens parts h
line-counts RankWord tokens parts h = rank-count tokens parts h

-- each line has an element
some-element : (word : TermWord) (numbers elements : ℕ) → AreCounts word numbers elements
    → 1 ≤ elements
some-element WeightWord numbers elements h = h.0
some-element CutWord numbers elements h = omega (arith, h.1)
some-element NeedWord numbers elements h = omega (arith, h.1)
some-element CoverWord numbers elements h = h.0
some-element TableWord numbers elements h = h.0
some-element ConcaveWord numbers elements h = h.0
some-element RankWord numbers elements h = h

values-count : (word : TermWord) (parts : LineParts) (values : List ℤ) (places : List ℕ)
    → AreRead word parts values places → length values ≡ length parts.numbers
values-count word parts values places h = length-AllZip (IsNumberFor h.version word) parts.numbers
    values h.numbers

-- what has been read of a line is what its term takes
pub given : (word : TermWord) (parts : LineParts) (values : List ℤ) (places : List ℕ)
    → AreRead word parts values places → AreGiven word values places
given word parts values places h =
    let counts : AreCounts word (length values)
    (length places) = rw (values-count word parts values places h, h.elements)
    (line-counts word h.tokens parts h.shape) in
    let some = some-element word (length values) (length places) counts in
    record {
      counts = counts;
      elements = record { some = omega (arith, some); placed = h.placed };
      low = All-AllZip (IsNumberFor h.version word) (λ value. lowest_of Second word ≤ℤ value)
          (low-number h.version word) parts.numbers values h.numbers;
      small = All-AllZip (IsNumberFor h.version word) (IsAtMost (10 ^ 15))
          (small-number h.version word) parts.numbers values h.numbers;
    }

module _ (parts : LineParts) (values : List ℤ) (places : List ℕ)
    (h : AreRead RankWord parts values places) where
  module _ (is : parts.rank ≡ UniformRank) where
    as-uniform : IsUniformLine h.tokens parts
    as-uniform = subst (λ (r : RankKind). IsLineOfRank r h.tokens parts) is
        (line-of-rank h.tokens parts h.shape)

    pub uniform-two : length values ≡ 2
    uniform-two = values-count RankWord parts values places h
        ∙ ap (λ (p : LineParts). length p.numbers) as-uniform.parts_are

  module _ (is : parts.rank ≡ LaminarRank) where
    as-laminar : IsLaminarLine h.tokens parts
    as-laminar = subst (λ (r : RankKind). IsLineOfRank r h.tokens parts) is
        (line-of-rank h.tokens parts h.shape)

    pub laminar-each : length values ≡ length parts.groups + 1
    laminar-each =
        let l = as-laminar in
        omega (
          arith,
          values-count RankWord parts values places h,
          ap (λ (p : LineParts). length p.numbers) l.parts_are,
          ap (λ (p : LineParts). length p.groups) l.parts_are,
          length-map l.groups (λ (g : List ℕ × List (List ℕ)). g.0),
          length-map l.groups (λ (g : List ℕ × List (List ℕ)). g.1),
        )

  -- what has been read of a line with labels
  module _ (rank : RankKind) (word : List ℕ) (line : IsLabelledLine rank word h.tokens parts) where
    entries-count : length places ≡ length line.entries
    entries-count = h.elements ∙ (ap (λ (p : LineParts). length p.elements) line.parts_are
        ∙ length-map line.entries (λ (e : List ℕ × List (List ℕ)). e.0))

    labelled-one : length values ≡ 1
    labelled-one = values-count RankWord parts values places h
        ∙ ap (λ (p : LineParts). length p.numbers) line.parts_are

    labelled-each : length parts.labels ≡ length places
    labelled-each = ap (λ (p : LineParts). length p.labels) line.parts_are
        ∙ (length-map line.entries (λ (e : List ℕ × List (List ℕ)). e.1) ∙ sym entries-count)

  module _ (is : parts.rank ≡ GraphicRank) where
    as-graphic : IsLabelledLine GraphicRank (codes "graphic") h.tokens parts
    as-graphic = subst (λ (r : RankKind). IsLineOfRank r h.tokens parts) is
        (line-of-rank h.tokens parts h.shape)

    pub graphic-one : length values ≡ 1
    graphic-one = labelled-one GraphicRank (codes "graphic") as-graphic

    pub graphic-each : length parts.labels ≡ length places
    graphic-each = labelled-each GraphicRank (codes "graphic") as-graphic

    -- an edge has two ends
    pub graphic-two : All (λ texts. length texts ≡ 2) parts.labels
    graphic-two =
        let line = as-graphic in
        let each : All (λ (e : List ℕ × List (List ℕ)). length e.1 ≡ 2) line.entries = All-AllZip
        (IsLabelToken GraphicRank) (λ (e : List ℕ × List (List ℕ)). length e.1 ≡ 2)
        (λ token e edge. let (tail, head, ends, is) = edge.labels in ap length is) line.behind
        line.entries line.each in
        let all = All-map (λ texts. length texts ≡ 2) (λ (e : List ℕ × List (List ℕ)). e.1)
        line.entries each in
        rw (ap (λ (p : LineParts). p.labels) line.parts_are) all

-- a list of two
two-of : (values : List ℤ) (d e : ℤ) → length values ≡ 2
    → get_or values 0 d ∷ get_or values 1 e ∷ [] ≡ values
two-of [] d e h = absurd (omega (arith, h))
two-of (a ∷ []) d e h = absurd (omega (arith, h))
two-of (a ∷ b ∷ []) d e h = refl
two-of (a ∷ b ∷ c ∷ values) d e h = absurd (omega (arith, h))

-- a number of the line is kept as it is
pub kept-at : (values : List ℤ) (i : ℕ) → i < length values → All (IsAtMost (10 ^ 15)) values
    → to_z w128 (of_z w128 (get_or values i (pos 0))) ≡ get_or values i (pos 0)
kept-at values i lt small =
    let s = small i (pos 0) lt in
    omega (arith, ints, s.low, s.high)

pub kept-two : (values : List ℤ) → length values ≡ 2 → All (IsAtMost (10 ^ 15)) values
    → to_z w128 (of_z w128 (get_or values 0 (pos 0))) ∷ to_z w128
    (of_z w128 (get_or values 1 (pos 0))) ∷ [] ≡ values
kept-two values two small = rw (
  kept-at values 0 (omega (arith, two)) small,
  kept-at values 1 (omega (arith, two)) small,
) (two-of values (pos 0) (pos 0) two)
