-- The numbers of a line are small.
use Rattle.std.proofs.Common.{◌≡◌, ℕ, ◌^◌, List, ◌++◌, get_or, codes, sym, ap, ◌∙◌, ℤ, pos, neg_ℤ, ◌≤ℤ◌, to_z, of_z, arith}
use Rattle.std.specs.Int.{w128}
use Rattle.std.proofs.lemmas.Int.{ints}
use Rattle.sfm_spec.specs.Bounds.{IsAtMost, IsEntry, IsGiven}
use Rattle.sfm_base.specs.NumberText.{IsCount, IsNumber, is_zero, is_positive, is_negative}
use Rattle.sfm_kind.specs.declared.version.Version.{Version}
use Rattle.sfm_kind.specs.declared.version.Version.TheVariants.{First, Second}
use Rattle.sfm_lines.specs.Versions.{most_written}
use Rattle.sfm_lines.specs.Words.{lowest_of}
use Rattle.sfm_lines.specs.TermLines.{IsNumberFor}
use Rattle.sfm_lines.specs.declared.word.TermWord.{TermWord}
use Rattle.sfm_lines.specs.declared.word.TermWord.TheVariants.{WeightWord, TableWord, ConcaveWord}

-- the greatest number is from 0 to 10^15
pub most_written-low : (version : Version) → pos 0 ≤ℤ most_written version
most_written-low First = omega (arith, ints)
most_written-low Second = omega (arith, ints)

pub most_written-high : (version : Version) → most_written version ≤ℤ pos (10 ^ 15)
most_written-high First = omega (arith, ints)
most_written-high Second = omega (arith, ints)

-- the least number of a line is from -10^15 to 0, and no less than that of the second version
pub lowest_of-low : (version : Version) (word : TermWord)
    → neg_ℤ (pos (10 ^ 15)) ≤ℤ lowest_of version word
lowest_of-low version WeightWord = let m = most_written-high version in omega (arith, ints, m)
lowest_of-low version TableWord = let m = most_written-high version in omega (arith, ints, m)
lowest_of-low version ConcaveWord = let m = most_written-high version in omega (arith, ints, m)
lowest_of-low version _ = omega (arith, ints)

pub lowest_of-high : (version : Version) (word : TermWord) → lowest_of version word ≤ℤ pos 0
lowest_of-high version WeightWord = let m = most_written-low version in omega (arith, ints, m)
lowest_of-high version TableWord = let m = most_written-low version in omega (arith, ints, m)
lowest_of-high version ConcaveWord = let m = most_written-low version in omega (arith, ints, m)
lowest_of-high version _ = omega (arith, ints)

lowest_of-second : (version : Version) (word : TermWord)
    → lowest_of Second word ≤ℤ lowest_of version word
lowest_of-second version WeightWord = let m = most_written-high version in omega (arith, ints, m)
lowest_of-second version TableWord = let m = most_written-high version in omega (arith, ints, m)
lowest_of-second version ConcaveWord = let m = most_written-high version in omega (arith, ints, m)
lowest_of-second version _ = omega (arith, ints)

-- an entry is kept as it is
pub kept-entry : (v : ℤ) → IsEntry v → to_z w128 (of_z w128 v) ≡ v
kept-entry v h = omega (arith, ints)

-- the bounds are kept as they are
pub kept-lowest : (version : Version) (word : TermWord) (r : ℤ) → r ≡ lowest_of version word
    → to_z w128 (of_z w128 r) ≡ lowest_of version word
kept-lowest version word r e = let l = lowest_of-low version word in let h = lowest_of-high version
    word in omega (arith, ints, e, l, h)

pub kept-highest : (version : Version) (r : ℤ) → r ≡ most_written version
    → to_z w128 (of_z w128 r) ≡ most_written version
kept-highest version r e = let l = most_written-low version in let h = most_written-high
    version in omega (arith, ints, e, l, h)

pub low-number : (version : Version) (word : TermWord) (text : List ℕ) (value : ℤ)
    → IsNumberFor version word text value → lowest_of Second word ≤ℤ value
low-number version word text value h =
    let s = lowest_of-second version word in let l = h.1 in omega (arith, ints, s, l)

pub small-number : (version : Version) (word : TermWord) (text : List ℕ) (value : ℤ)
    → IsNumberFor version word text value → IsAtMost (10 ^ 15) value
small-number version word text value h =
    let l = lowest_of-low version word in
    let m = most_written-high version in
    let low = h.1 in
    let high = h.2 in
    record { low = omega (arith, ints, l, low); high = omega (arith, ints, m, high) }

pub entry-number : (version : Version) (word : TermWord) (text : List ℕ) (value : ℤ)
    → IsNumberFor version word text value → IsEntry value
entry-number version word text value h =
    let s = small-number version word text value
    h in record { low = omega (arith, ints, s.low); high = omega (arith, ints, s.high) }

-- such a number is one that a term may be made of
pub given-number : (version : Version) (word : TermWord) (text : List ℕ) (value : ℤ)
    → IsNumberFor version word text value → IsGiven value
given-number version word text value h =
    let s = small-number version word text value
    h in record { low = omega (arith, ints, s.low); high = omega (arith, ints, s.high) }

pub kept-number : (version : Version) (word : TermWord) (text : List ℕ) (value : ℤ)
    → IsNumberFor version word text value → to_z w128 (of_z w128 value) ≡ value
kept-number version word text value h =
    let s = small-number version word text value h in omega (arith, ints, s.low, s.high)

count-same : (bytes : List ℕ) (m n : ℕ) → IsCount bytes m → IsCount bytes n → m ≡ n
count-same bytes m n h g = sym h.value ∙ g.value

-- what stands first in a number's text tells its kind
zero-first : (bytes : List ℕ) → bytes ≡ codes "0" → get_or bytes 0 0 ≡ 48
zero-first bytes e = ap (λ (b : List ℕ). get_or b 0 0) e

minus-first : (bytes digits : List ℕ) → bytes ≡ codes "-" ++ digits → get_or bytes 0 0 ≡ 45
minus-first bytes digits e = ap (λ (b : List ℕ). get_or b 0 0) e

-- a text is that of one number
pub number-same : (bytes : List ℕ) (v w : ℤ) → IsNumber bytes v → IsNumber bytes w → v ≡ w
number-same bytes v w (is_zero e a) (is_zero f b) = a ∙ sym b
number-same bytes v w (is_zero e a) (is_positive n g b) =
    absurd (omega (arith, zero-first bytes e, g.first))
number-same bytes v w (is_zero e a) (is_negative n digits f g b) =
    absurd (omega (arith, zero-first bytes e, minus-first bytes digits f))
number-same bytes v w (is_positive m h a) (is_zero f b) =
    absurd (omega (arith, zero-first bytes f, h.first))
number-same bytes v w (is_positive m h a) (is_positive n g b) =
    a ∙ (ap pos (count-same bytes m n h g) ∙ sym b)
number-same bytes v w (is_positive m h a) (is_negative n digits f g b) =
    absurd (omega (arith, minus-first bytes digits f, h.first))
number-same bytes v w (is_negative m digits e h a) (is_zero f b) =
    absurd (omega (arith, zero-first bytes f, minus-first bytes digits e))
number-same bytes v w (is_negative m digits e h a) (is_positive n g b) =
    absurd (omega (arith, minus-first bytes digits e, g.first))
number-same bytes v w (is_negative m digits e h a) (is_negative n digits' f g b) =
    let both : codes "-" ++ digits ≡ codes "-" ++ digits' = sym e ∙ f in
    let same : digits ≡ digits' = cc in
    let count : m ≡ n = count-same digits' m n (rw same at h) g in
    a ∙ (ap (λ (k : ℕ). neg_ℤ (pos k)) count ∙ sym b)

pub from-same : (version : Version) (word : TermWord) (text : List ℕ) (v w : ℤ)
    → IsNumberFor version word text v → IsNumberFor version word text w → v ≡ w
from-same version word text v w h g = number-same text v w h.0 g.0
