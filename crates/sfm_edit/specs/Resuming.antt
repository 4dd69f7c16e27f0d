-- The bases from which the walks over an edited instance begin.
use Rattle.std.specs.Prelude.{◌≡◌, ℕ, ◌<◌, ◌^◌, List, length, map, zip, slice_get, Option, Some, None, ℤ, pos}
use Rattle.std.specs.List.{All}
use Rattle.sfm_spec.specs.Bounds.{IsAtMost}
use Rattle.sfm_spec.specs.Terms.{times, IsBase}
use Rattle.sfm_spec.specs.Walks.{base_at}
use Rattle.sfm_kind.specs.declared.kind.Kind.{Kind}
use Rattle.sfm_kind.specs.Kinds.{kind_places, kind_value, kind_start}

-- the old base of a kept term, and the first base of an added one
abbrev pub first_of : List (List ℤ) → Kind → Option ℕ → List ℤ
first_of rows kind (Some i) = base_at rows i
first_of rows kind None = kind_start kind (pos 1)

-- the same of each term
abbrev pub firsts_of : List Kind → List (Option ℕ) → List (List ℤ) → List (List ℤ)
firsts_of kinds kept rows = map (λ (kind, origin). first_of rows kind origin) (zip kinds kept)

-- there is a row i, and it is a base of the term, with entries of magnitude at most 10^25
pub record HasBaseAt (rows : List (List ℤ)) (i : ℕ) (kind : Kind) : Type 0 where
  pub within : i < length rows
  pub entries : length (base_at rows i) ≡ length (kind_places kind)
  pub base : IsBase (times (pos 1) (kind_value kind)) (base_at rows i)
  pub small : All (IsAtMost (10 ^ 25)) (base_at rows i)

-- each kept term has its old base among the rows
abbrev pub AreOldBases : List Kind → List (Option ℕ) → List (List ℤ) → Type 0
AreOldBases kinds kept rows = (j i : ℕ) (kind : Kind) → slice_get kinds j ≡ Some kind
    → slice_get kept j ≡ Some (Some i) → HasBaseAt rows i kind
