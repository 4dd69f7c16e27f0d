-- Rows that are only claimed: of such a row is known that it lacks no place to which there is room,
-- and it may have more.
use Rattle.std.specs.Prelude.{◌≡◌, ◌≢◌, ◌⊎◌, ℕ, ◌<◌, List, length, slice_index_or, ℤ}
use Rattle.std.specs.List.{sum_by}
use Rattle.sfm_spec.specs.Progress.{sum_below}
use Rattle.sfm_spec.specs.Terms.{SetFunction, HasRoom}
use Rattle.sfm_reach.specs.declared.bits.Bits.{Bits}
use Rattle.sfm_reach.specs.Bits.{bit_in, set_at}
use Rattle.sfm_reach.specs.Reach.{IsRow}
use Rattle.sfm_reach.specs.declared.spots.Spot.{Spot}
use Rattle.sfm_reach.specs.Spots.{spot_at, spots_at}

-- the row of the place u has at least the ground places to which it has room, and only those of
-- other places of the term
pub record IsClaim (places : List ℕ) (f : SetFunction) (x : List ℤ) (u : ℕ) (row : Bits) : Type
    0 where
  pub has : (v : ℕ) → v < length places → v ≢ u → HasRoom f x u v
      → bit_in row (slice_index_or places v 0) ≡ 1
  pub inside : (e : ℕ) → bit_in row e ≡ 1 → (v : ℕ) × (v < length places) × (v ≢ u)
      × (slice_index_or places v 0 ≡ e)

-- each row is a claim, and is the true row where its ground place is not among the claimed ones
pub record AreClaims (places : List ℕ) (f : SetFunction) (x : List ℤ) (claimed : Bits)
    (rows : List Bits) : Type 0 where
  pub claims : (u : ℕ) → u < length places → IsClaim places f x u (set_at rows u)
  pub exact : (u : ℕ) → u < length places → bit_in claimed (slice_index_or places u 0) ≢ 1
      → IsRow places f x u (set_at rows u)

-- the rows of a place are not claimed, in any term that has it
abbrev pub IsSettled : List (List Spot) → List Bits → ℕ → Type 0
IsSettled spots claimed e = (k : ℕ) → k < length (spots_at spots e)
    → bit_in (set_at claimed (spot_at (spots_at spots e) k).term) e ≢ 1

-- how many rows are claimed
abbrev pub claims_of : List Bits → ℕ
claims_of claimed = sum_by (λ b. sum_below 256 (bit_in b)) claimed

-- no row was asked, or fewer are claimed
abbrev pub IsAsked : List (List Bits) → List Bits → List (List Bits) → List Bits → Type 0
IsAsked tables claimed tables' claimed' = ((tables' ≡ tables) × (claimed' ≡ claimed))
    ⊎ (claims_of claimed' < claims_of claimed)
