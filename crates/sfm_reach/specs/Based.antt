-- Terms at bases of theirs, within the bounds.
use Rattle.std.specs.Prelude.{◌≡◌, ℕ, ◌<◌, List, length, slice_index_or, ℤ}
use Rattle.sfm_spec.specs.Sets.{IsPlaced}
use Rattle.sfm_spec.specs.Terms.{SetFunction}
use Rattle.sfm_spec.specs.Walks.{base_at}
use Rattle.sfm_law.specs.Based.{IsBased}

-- the places of the term are distinct and below 256, and x is a base of q times it within the
-- bounds
pub record IsPlacedBase {X : Type 0} (places : X → List ℕ) (value : X → SetFunction) (size : X → ℤ)
    (term : X) (q : ℤ) (x : List ℤ) : Type 0 where
  pub placed : IsPlaced 256 (places term)
  pub based : IsBased places value size term q x

-- the rows are such bases, one for each term
pub record AreBased {X : Type 0} (places : X → List ℕ) (value : X → SetFunction) (size : X → ℤ)
    (terms : List X) (q : ℤ) (rows : List (List ℤ)) : Type 0 where
  pub count : length rows ≡ length terms
  pub each : (i : ℕ) → i < length terms → (term : X) → term ≡ slice_index_or terms i term
      → IsPlacedBase places value size term q (base_at rows i)
