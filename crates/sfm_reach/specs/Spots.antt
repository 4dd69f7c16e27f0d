-- The terms at each place of the ground.
use Rattle.std.specs.Prelude.{◌≡◌, ℕ, ◌<◌, ◌≤◌, List, [], length, slice_index_or}
use Rattle.sfm_spec.specs.Families.{Meaning}
use Rattle.sfm_spec.specs.Walks.{term_at}
use Rattle.sfm_reach.specs.declared.spots.Spot.{Spot}

abbrev pub no_spot : Spot
no_spot = record { term = 0; local = 0 }

abbrev pub spots_at : List (List Spot) → ℕ → List Spot
spots_at spots e = slice_index_or spots e []

abbrev pub spot_at : List Spot → ℕ → Spot
spot_at spots k = slice_index_or spots k no_spot

-- the term has the ground place e at this place of its own
pub record IsSpot (terms : List Meaning) (e : ℕ) (spot : Spot) : Type 0 where
  pub term_in : spot.term < length terms
  pub local_in : spot.local < length (term_at terms spot.term).places
  pub at : slice_index_or (term_at terms spot.term).places spot.local 0 ≡ e

-- the spots of each of n places are those of the terms, in their order
pub record AreSpots (terms : List Meaning) (n : ℕ) (spots : List (List Spot)) : Type 0 where
  pub count : length spots ≡ n
  pub sound : (e k : ℕ) → e < n → k < length (spots_at spots e)
      → IsSpot terms e (spot_at (spots_at spots e) k)
  pub complete : (i u : ℕ) → i < length terms → u < length (term_at terms i).places
      → (k : ℕ) × (k < length (spots_at spots (slice_index_or (term_at terms i).places u 0)))
      × (spot_at (spots_at spots (slice_index_or (term_at terms i).places u 0))
      k ≡ record { term = i; local = u })
  pub ordered : (e j k : ℕ) → e < n → j < k → k < length (spots_at spots e)
      → (spot_at (spots_at spots e) j).term ≤ (spot_at (spots_at spots e) k).term

-- the spots of the first k places of the term i are put behind those that were there
pub record AddsSpots (places : List ℕ) (i k : ℕ) (before after : List (List Spot)) : Type 0 where
  pub count : length after ≡ length before
  pub grown : (e : ℕ) → length (spots_at before e) ≤ length (spots_at after e)
  pub kept : (e j : ℕ) → j < length (spots_at before e)
      → spot_at (spots_at after e) j ≡ spot_at (spots_at before e) j
  pub put : (u : ℕ) → u < k → (j : ℕ) × (j < length (spots_at after (slice_index_or places u 0)))
      × (spot_at (spots_at after (slice_index_or places u 0)) j ≡ record { term = i; local = u })
  pub only : (e j : ℕ) → length (spots_at before e) ≤ j → j < length (spots_at after e) → (u : ℕ)
      × (u < k) × (slice_index_or places u 0 ≡ e)
      × (spot_at (spots_at after e) j ≡ record { term = i; local = u })
