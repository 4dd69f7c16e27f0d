-- The first reason of a long line, from what passes over its tokens tell.
use Rattle.std.proofs.Common.{◌≡◌, ◌<◌, ◌≤◌, ℕ, ◌^◌, List, [], ◌∷◌, ◌++◌, length, take, map, codes, Contains, ℤ, refl, ap, arith, length-append}
use Rattle.std.specs.List.{All, Any, AllZip}
use Rattle.std.proofs.Math.Pow.{pow_mono}
use Rattle.std.proofs.lemmas.List.{length-map}
use Rattle.std.proofs.lemmas.List.Elements.{All-nil}
use Rattle.sfm_spec.specs.Names.{IsName}
use Rattle.sfm_kind.specs.Names.{AreElementNames}
use Rattle.sfm_kind.specs.Instance.{InstanceData}
use Rattle.sfm_kind.specs.declared.version.Version.{Version}
use Rattle.sfm_lines.specs.declared.reason.Reason.TheVariants.{Shape, Number, Name, Twice}
use Rattle.sfm_passes.specs.declared.token_test.TokenTest.TheVariants.{Pair, PairNumber, PairElement, Value, Element}
use Rattle.sfm_lines.specs.declared.word.TermWord.{TermWord}
use Rattle.sfm_lines.specs.declared.word.TermWord.TheVariants.{WeightWord, CoverWord, ConcaveWord, CutWord, NeedWord, TableWord}
use Rattle.sfm_lines.specs.Parts.{LineParts, plain_parts, IsSeparator, HaveNoSeparator, IsPairToken, IsWeightLine, IsCutAtColon, IsColonLine}
use Rattle.sfm_lines.specs.CutParts.{AreCounts}
use Rattle.sfm_lines.specs.Words.{HasParts}
use Rattle.sfm_lines.specs.TermLines.{IsNumberFor, IsElement, StandsTwice}
use Rattle.sfm_lines.specs.Reading.{HasStranger, HasWrongLabel, HasSlotTwice}
use Rattle.sfm_passes.specs.Passes.{Holds, IsReasonOf, HasTooMany}
use Rattle.sfm_lines.specs.ReadParts.{IsNumberOf, IsKnown}
use Rattle.sfm_lines.proofs.Colons.{none-any, colon-same}
use Rattle.sfm_lines.proofs.Matches.{AllZip-at, length-AllZip}
use Rattle.sfm_passes.proofs.LongNames.{unknown-new, many-twice}
use Rattle.sfm_passes.proofs.Passed.{any-here, all-matched, matched-each, matched-one}
use Rattle.sfm_lines.proofs.TermReasons.{at-shape, at-number, at-name, at-label, at-stranger, at-twice, at-member-twice, at-slot-twice, twice-texts}
use Rattle.sfm_lines.proofs.WordLines.{pair-same}

-- texts that are numbers of the word's line in a text of that version, and texts that name elements
abbrev pub AreNumbers : Version → TermWord → List (List ℕ) → Type 0
AreNumbers version word texts = (values : List ℤ) × AllZip (IsNumberFor version word) texts values

abbrev pub AreKnown : List (List ℕ) → List (List ℕ) → Type 0
AreKnown names texts = (places : List ℕ) × AllZip (IsElement names) texts places

module _ (i : InstanceData) (word : TermWord) (rest : List (List ℕ)) where
  pub long-shape : ((parts : LineParts) → HasParts word rest parts → ⊥)
      → IsReasonOf i word rest Shape
  long-shape none = λ line is. at-shape i word rest line is none

  module _ (parts : LineParts) (shape : HasParts word rest parts) where
    pub long-number : Any (λ text. IsNumberOf i.version word text → ⊥) parts.numbers
        → IsReasonOf i word rest Number
    long-number (k, text, lt, e, none) =
        λ line is. at-number i word rest line is parts shape
        (k, text, lt, e, λ value h. none (value, h))

    module _ (numbers : AreNumbers i.version word parts.numbers) where
      pub long-name : Any (λ text. IsKnown i.names text → ⊥) parts.elements
          → IsReasonOf i word rest Name
      long-name (k, text, lt, e, none) =
          λ line is. at-name i word rest line is parts shape numbers.0 numbers.1
          (k, text, lt, e, unknown-new i.names text none)

      pub long-label : HasWrongLabel parts → IsReasonOf i word rest Name
      long-label wrong = λ line is. at-label i word rest line is parts shape numbers.0 numbers.1
          wrong

      pub long-twice : AreElementNames i.names → AreKnown i.names parts.elements → parts.groups ≡ []
          → All (λ texts. All IsName texts) parts.labels → 256 < length parts.elements
          → IsReasonOf i word rest Twice
      long-twice named (places, known) groups labels many = λ line is.
          at-twice i word rest line is parts shape numbers.0 numbers.1 places named known
          (rw groups (All-nil _)) labels
          (many-twice i.names parts.elements places named.few known
          (omega (arith, many, length-AllZip (IsElement i.names) parts.elements places known)))

      pub long-slot : AreElementNames i.names → AreKnown i.names parts.elements → parts.groups ≡ []
          → All (λ texts. All IsName texts) parts.labels → HasSlotTwice parts.rank parts.labels
          → IsReasonOf i word rest Twice
      long-slot named (places, known) groups labels twice =
          λ line is. at-slot-twice i word rest line is parts shape numbers.0 numbers.1 places named
          known (rw groups (All-nil _)) labels twice

      pub long-stranger : HasStranger parts → IsReasonOf i word rest Name
      long-stranger stranger = λ line is. at-stranger i word rest line is parts shape numbers.0
          numbers.1 stranger

      pub long-element : AreElementNames i.names → AreKnown i.names parts.elements
          → All (λ names. All (Contains parts.elements) names) parts.groups
          → All (λ texts. All IsName texts) parts.labels → StandsTwice parts.elements
          → IsReasonOf i word rest Twice
      long-element named (places, known) members labels twice =
          λ line is. at-twice i word rest line is parts shape numbers.0 numbers.1 places named known
          members labels (twice-texts i.names parts.elements places named.distinct known twice)

      pub long-member : AreElementNames i.names → AreKnown i.names parts.elements
          → All (λ names. All (Contains parts.elements) names) parts.groups
          → All (λ texts. All IsName texts) parts.labels
          → Any (λ names. StandsTwice names) parts.groups → IsReasonOf i word rest Twice
      long-member named (places, known) members labels twice =
          λ line is. at-member-twice i word rest line is parts shape numbers.0 numbers.1 places
          named known members labels twice

-- a line with numbers and too many elements
module _ (i : InstanceData) (word : TermWord) (rest elements : List (List ℕ))
    (h : HasTooMany i.version word rest elements) where
  pub too-many-name : Any (λ token. Holds i Element token → ⊥) elements
      → IsReasonOf i word rest Name
  too-many-name any = long-name i word rest h.parts h.shape (h.numbers, h.are_numbers)
      (rw h.elements_are any)

  pub too-many-twice : AreElementNames i.names → All (Holds i Element) elements
      → IsReasonOf i word rest Twice
  too-many-twice named known = long-twice i word rest h.parts h.shape (h.numbers, h.are_numbers)
      named (rw h.elements_are (all-matched (IsElement i.names) elements known)) h.no_groups
      (rw h.no_labels (All-nil _)) (rw h.elements_are h.many)

-- ---- lines with few tokens

pub no-cut : (tokens : List (List ℕ)) → 1024 < length tokens → (parts : LineParts)
    → HasParts CutWord tokens parts → ⊥
no-cut tokens long parts h = omega (arith, long, h.0)

pub no-need : (tokens : List (List ℕ)) → 1024 < length tokens → (parts : LineParts)
    → HasParts NeedWord tokens parts → ⊥
no-need tokens long parts h = omega (arith, long, h.0)

pub no-table : (tokens : List (List ℕ)) → 1024 < length tokens → (parts : LineParts)
    → IsColonLine (AreCounts TableWord) tokens parts → ⊥
no-table tokens long parts h =
    let most : 2 ^ length h.1 ≤ 2 ^ 8 = pow_mono h.3.1 in
    omega (arith, long, ap length h.2.cut, length-append h.0 (codes ":" ∷ h.1), h.3.1, h.3.2, most)

-- ---- weights

-- some token is no pair
pub no-weight : (i : InstanceData) (tokens : List (List ℕ))
    → Any (λ token. Holds i Pair token → ⊥) tokens → (parts : LineParts) → IsWeightLine tokens parts
    → ⊥
no-weight i tokens (k, token, lt, e, none) parts h =
    let (pair, p) = AllZip-at IsPairToken tokens h.pairs k token h.each lt in
    none (pair, rw e at p)

module _ (i : InstanceData) (tokens : List (List ℕ)) (long : 1024 < length tokens)
    (pairs : List (List ℕ × List ℕ)) (each : AllZip IsPairToken tokens pairs) where
  weight-line : IsWeightLine tokens
      (plain_parts (map (λ pair. pair.1) pairs) (map (λ pair. pair.0) pairs))
  weight-line = record { pairs = pairs; some = omega (arith, long); each = each; parts_are = refl }

  pub weight-number : Any (λ token. Holds i PairNumber token → ⊥) tokens
      → IsReasonOf i WeightWord tokens Number
  weight-number any = long-number i WeightWord tokens
      (plain_parts (map (λ pair. pair.1) pairs) (map (λ pair. pair.0) pairs)) weight-line
      (matched-one IsPairToken (λ token. Holds i PairNumber token → ⊥)
      (λ (pair : List ℕ × List ℕ). pair.1) (λ text. IsNumberOf i.version WeightWord text → ⊥)
      (λ token pair p none number. none (pair, p, number)) tokens pairs each any)

  module _ (numbers : All (Holds i PairNumber) tokens) where
    weight-values : AreNumbers i.version WeightWord (map (λ pair. pair.1) pairs)
    weight-values = matched-each IsPairToken (Holds i PairNumber)
        (λ (pair : List ℕ × List ℕ). pair.1) (IsNumberFor i.version WeightWord)
        (λ token pair p (other, q, number). let same : other ≡ pair = pair-same token other pair q
        p in rw same at number) tokens pairs each numbers

    pub weight-name : Any (λ token. Holds i PairElement token → ⊥) tokens
        → IsReasonOf i WeightWord tokens Name
    weight-name any = long-name i WeightWord tokens
        (plain_parts (map (λ pair. pair.1) pairs) (map (λ pair. pair.0) pairs)) weight-line
        weight-values
        (matched-one IsPairToken (λ token. Holds i PairElement token → ⊥)
        (λ (pair : List ℕ × List ℕ). pair.0) (λ text. IsKnown i.names text → ⊥)
        (λ token pair p none known. none (pair, p, known)) tokens pairs each any)

    pub weight-twice : AreElementNames i.names → All (Holds i PairElement) tokens
        → IsReasonOf i WeightWord tokens Twice
    weight-twice named elements =
        long-twice i WeightWord tokens
        (plain_parts (map (λ pair. pair.1) pairs) (map (λ pair. pair.0) pairs)) weight-line
        weight-values named
        (matched-each IsPairToken (Holds i PairElement) (λ (pair : List ℕ × List ℕ). pair.0)
        (IsElement i.names)
        (λ token pair p (other, q, known). let same : other ≡ pair = pair-same token other pair q
        p in rw same at known) tokens pairs each elements)
        refl (All-nil _) (omega (
          arith,
          long,
          length-map pairs (λ (pair : List ℕ × List ℕ). pair.0),
          length-AllZip IsPairToken tokens pairs each,
        ))

-- ---- a cover

pub no-cover : (tokens : List (List ℕ)) → Any IsSeparator tokens → (parts : LineParts)
    → HasParts CoverWord tokens parts → ⊥
no-cover tokens any parts h = none-any IsSeparator tokens h.1.unmarked any

module _ (i : InstanceData) (tokens : List (List ℕ)) (long : 1024 < length tokens)
    (unmarked : HaveNoSeparator tokens) (number : List ℕ) (elements : List (List ℕ))
    (cut : tokens ≡ number ∷ elements) where
  cover-line : HasParts CoverWord tokens (plain_parts (number ∷ []) elements)
  cover-line = (omega (arith, long), record { unmarked = unmarked; parts_are = rw cut refl })

  pub cover-number : (IsNumberOf i.version CoverWord number → ⊥)
      → IsReasonOf i CoverWord tokens Number
  cover-number none = long-number i CoverWord tokens (plain_parts (number ∷ []) elements) cover-line
      (any-here (λ text. IsNumberOf i.version CoverWord text → ⊥) number [] _ refl none)

  pub cover-many : IsNumberOf i.version CoverWord number
      → HasTooMany i.version CoverWord tokens elements
  cover-many good = record {
    parts = plain_parts (number ∷ []) elements;
    shape = cover-line;
    numbers = good.0 ∷ [];
    are_numbers = (good.1, tt);
    elements_are = refl;
    no_groups = refl;
    no_labels = refl;
    many = omega (arith, long, ap length cut);
  }

-- ---- a concave function

pub no-concave : (tokens before behind : List (List ℕ)) → IsCutAtColon tokens before behind
    → (AreCounts ConcaveWord (length before) (length behind) → ⊥) → (parts : LineParts)
    → IsColonLine (AreCounts ConcaveWord) tokens parts → ⊥
no-concave tokens before behind cut none parts h =
    let same = colon-same tokens h.0 h.1 before behind h.2 cut in
    none (rw (same.0, same.1) at h.3)

front-is : {X : Type 0} (before behind : List X) → take (length before) (before ++ behind) ≡ before
front-is [] behind = refl
front-is (x ∷ before) behind = ap (λ l. x ∷ l) (front-is before behind)

module _ (i : InstanceData) (tokens : List (List ℕ)) (long : 1024 < length tokens)
    (before behind : List (List ℕ)) (cut : IsCutAtColon tokens before behind)
    (count : AreCounts ConcaveWord (length before) (length behind)) where
  concave-line : IsColonLine (AreCounts ConcaveWord) tokens (plain_parts before behind)
  concave-line = (before, behind, cut, count, refl)

  concave-front : take (length before) tokens ≡ before
  concave-front = rw (cut.cut) (front-is before (codes ":" ∷ behind))

  pub concave-number : Any (λ token. Holds i Value token → ⊥) (take (length before) tokens)
      → IsReasonOf i ConcaveWord tokens Number
  concave-number any = long-number i ConcaveWord tokens (plain_parts before behind) concave-line
      (rw concave-front at any)

  pub concave-many : All (Holds i Value) (take (length before) tokens)
      → HasTooMany i.version ConcaveWord tokens behind
  concave-many good =
      let values : AreNumbers i.version ConcaveWord before = all-matched
      (IsNumberFor i.version ConcaveWord) before (rw concave-front at good) in
      record {
        parts = plain_parts before behind;
        shape = concave-line;
        numbers = values.0;
        are_numbers = values.1;
        elements_are = refl;
        no_groups = refl;
        no_labels = refl;
        many = omega (
          arith,
          long,
          ap length (cut.cut),
          length-append before (codes ":" ∷ behind),
          count.1,
        );
      }
