-- Whether there is too much in all with one more line, and what a line of one term brings.
use Rattle.std.proofs.Common.{◌≡◌, ◌↔◌, inl, inr, ℕ, ◌+◌, ◌<◌, ◌≤◌, ◌^◌, List, [], ◌∷◌, length, map, IsTrue, true, None, ℤ, pos, ◌+ℤ◌, ◌-ℤ◌, ◌≤ℤ◌, ◌<ℤ◌, FitsSigned, to_z, of_z, refl, sym, ◌∙◌, arith}
use Rattle.std.specs.List.{AllZip}
use Rattle.std.specs.Int.{w128}
use lib.Signed.{lt_z}
use Rattle.std.proofs.lemmas.Int.{ints}
use Rattle.std.proofs.lemmas.List.Sums.{sum_by-cons}
use Rattle.sfm_spec.specs.Families.{Meaning, meanings}
use Rattle.sfm_kind.specs.Meanings.{kind_places, total_by, IsMeaningOf}
use Rattle.sfm_kind.specs.Kinds.{kind_size, kind_value}
use Rattle.sfm_kind.specs.Instance.{support_of}
use Rattle.sfm_kind.specs.Layers.{Brings}
use Rattle.sfm_kind.specs.Limits.{AreInBounds, total_size_of}
use Rattle.sfm_kind.specs.declared.kind.Kind.{Kind}
use Rattle.sfm_kind.specs.declared.version.Version.{Version}
use Rattle.sfm_kind.specs.declared.version.Version.TheVariants.{First, Second}
use Rattle.sfm_kind.proofs.Bounds.{kind-elements, total_size-low}
use Rattle.sfm_kind.proofs.Meanings.{kind-means, kinds-mean, kind-size, total-size}
use Rattle.sfm_lines.specs.Versions.{most_size}
use Rattle.sfm_lines.specs.Reading.{AreTooMuch}

-- ---- what a line of one term brings

pub brings-own : (term : Kind) → Brings term None (length (kind_places term)) (kind_size term)
brings-own term =
    let values = (kind-means term).values in
    (refl, (kind_value term, values, sym (kind-size term (kind_value term) values)))

-- its places and its size are those that the term tells of itself
pub brings-same : (term : Kind) (places : ℕ) (total : ℤ) → Brings term None places total
    → (places ≡ length (kind_places term)) × (total ≡ kind_size term)
brings-same term places total (count, (f, is, size)) = (count, size ∙ kind-size term f is)

-- ---- the bounds

pub most_size-low : (version : Version) → pos 0 ≤ℤ most_size version
most_size-low First = omega (arith, ints)
most_size-low Second = omega (arith, ints)

pub most_size-high : (version : Version) → most_size version ≤ℤ pos (10 ^ 18)
most_size-high First = omega (arith, ints)
most_size-high Second = omega (arith, ints)

pub support-cons : (term : Kind) (terms : List Kind)
    → support_of (term ∷ terms) ≡ length (kind_places term) + support_of terms
support-cons term terms = sum_by-cons (λ (n : ℕ). n) (length (kind_places term))
    (map length (map kind_places terms))

-- each term has a place
pub terms-few : (terms : List Kind) → length terms ≤ support_of terms
terms-few [] = omega arith
terms-few (term ∷ terms) =
    let some = (kind-elements term).some in
    let few = terms-few terms in
    let all = support-cons term terms in
    omega (arith, some, few, all)

-- the sizes are too much by the meanings of the terms exactly where they are by what the terms tell
-- of themselves
pub much-by-total : (version : Version) (lines : List ℕ) (terms : List Kind) (places : ℕ) (size : ℤ)
    → most_size version <ℤ (total_size_of terms +ℤ size)
    → AreTooMuch version lines terms places size
much-by-total version lines terms places size much =
    let meant : List Meaning = meanings kind_places kind_value terms in
    let same = total-size terms meant (kinds-mean terms) in
    inr (inr (meant, kinds-mean terms, omega (arith, ints, much, same)))

pub total-by-much : (limit : ℤ) (terms : List Kind) (meant : List Meaning) (size : ℤ)
    → AllZip IsMeaningOf terms meant → limit <ℤ (total_by terms meant +ℤ size)
    → limit <ℤ (total_size_of terms +ℤ size)
total-by-much limit terms meant size means much =
    let same = total-size terms meant means in omega (arith, ints, much, same)

-- the room that is left for sizes is kept as it is
pub kept-room : (n : ℕ) (version : Version) (terms : List Kind) (limit total : ℤ)
    → AreInBounds n terms → limit ≡ most_size version → total ≡ total_size_of terms
    → FitsSigned w128 (to_z w128 (of_z w128 limit) -ℤ to_z w128 (of_z w128 total))
kept-room n version terms limit total h is e =
    let a = most_size-low version in
    let b = most_size-high version in
    let c = total_size-low terms in
    omega (arith, ints, is, e, a, b, c, h.small)

from_less : (a b : ℤ) → a <ℤ b → lt_z a b ≡ true
from_less a b h = grind (arith, ints)

-- the test on the size decides where there is room for the line and its places
pub much-by-size : (n : ℕ) (version : Version) (lines : List ℕ) (terms : List Kind) (places : ℕ)
    (limit total size : ℤ) → AreInBounds n terms → limit ≡ most_size version
    → total ≡ total_size_of terms → FitsSigned w128 size → length lines < 4096
    → support_of terms + places ≤ 16384
    → IsTrue (lt_z
    (to_z w128 (of_z w128 (to_z w128 (of_z w128 limit) -ℤ to_z w128 (of_z w128 total))))
    (to_z w128 (of_z w128 size))) ↔ AreTooMuch version lines terms places size
much-by-size n version lines terms places limit total size h is e small few room =
    let a = most_size-low version in
    let b = most_size-high version in
    let l = total_size-low terms in
    let same : to_z w128 (of_z w128 size) ≡ size = omega (arith, ints, small) in
    let most : to_z w128 (of_z w128 limit) ≡ limit = omega (arith, ints, is, a, b) in
    let kept : to_z w128 (of_z w128 total) ≡ total = omega (arith, ints, e, l, h.small) in
    let left : to_z w128 (of_z w128 (limit -ℤ total)) ≡ limit -ℤ total = omega (
      arith,
      ints,
      is,
      e,
      a,
      b,
      l,
      h.small,
    ) in
    rw (most, kept, left, same) (
      λ t. much-by-total version lines terms places size (omega (arith, ints, is, e, t)),
      λ m. by_much m,
    )
  where
    by_much : AreTooMuch version lines terms places size → IsTrue (lt_z (limit -ℤ total) size)
    by_much (inl m) = absurd (omega (arith, m, few))
    by_much (inr (inl m)) = absurd (omega (arith, m, room))
    by_much (inr (inr (meant, means, m))) =
        let much = total-by-much (most_size version) terms meant size means m in
        from_less (limit -ℤ total) size (omega (arith, ints, much, is, e))
