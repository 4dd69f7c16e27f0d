-- One row for each place of the ground.
use Rattle.std.specs.Prelude.{◌≡◌, ◌≢◌, ◌↔◌, ℕ, ◌<◌, max, List, length, slice_index_or, ℤ}
use Rattle.sfm_spec.specs.Families.{Meaning}
use Rattle.sfm_spec.specs.Walks.{term_at, IsStep}
use Rattle.sfm_reach.specs.declared.bits.Bits.{Bits}
use Rattle.sfm_reach.specs.declared.spots.Spot.{Spot}
use Rattle.sfm_reach.specs.Bits.{bit_in, set_at}
use Rattle.sfm_reach.specs.Spots.{spots_at, spot_at}
use Rattle.sfm_reach.specs.Reach.{table_at}

-- the row of a spot
abbrev pub spot_row : List (List Bits) → Spot → Bits
spot_row tables spot = set_at (table_at tables spot.term) spot.local

-- there is a row for each of some spots
abbrev pub HasRows : List (List Bits) → List Spot → Type 0
HasRows tables spots = (j : ℕ) → j < length spots → ((spot_at spots j).term < length tables)
    × ((spot_at spots j).local < length (table_at tables (spot_at spots j).term))

-- there is a row for each spot of each place
abbrev pub HaveRows : List (List Bits) → List (List Spot) → Type 0
HaveRows tables spots = (e : ℕ) → e < length spots → HasRows tables (spots_at spots e)

-- the rows of a term have only ground places of the term
abbrev pub IsReadable : List Meaning → List (List Bits) → ℕ → Type 0
IsReadable terms tables i = (u e : ℕ) → u < length (term_at terms i).places
    → bit_in (set_at (table_at tables i) u) e ≡ 1
    → (e < 256) × ((v : ℕ) × (v < length (term_at terms i).places)
    × (slice_index_or (term_at terms i).places v 0 ≡ e))

-- s is the union of the rows of the first k of some spots
abbrev pub IsUnion : List (List Bits) → List Spot → ℕ → Bits → Type 0
IsUnion tables spots k s = (t : ℕ) → (bit_in s t ≡ 1)
    ↔ ((j : ℕ) × (j < k) × (bit_in (spot_row tables (spot_at spots j)) t ≡ 1))

-- the row of each place is the union of those of its spots
pub record AreUnions (tables : List (List Bits)) (spots : List (List Spot))
    (unions : List Bits) : Type 0 where
  pub count : length unions ≡ length spots
  pub exact : (e : ℕ) → e < length spots
      → IsUnion tables (spots_at spots e) (length (spots_at spots e)) (set_at unions e)

-- a step by some term leads from e to t
abbrev pub IsArc : List Meaning → ℤ → List (List ℤ) → ℕ → ℕ → Type 0
IsArc terms q rows e t = (i : ℕ) × IsStep terms q rows e (record { to = t; term = i })

-- the row of each place has the places to which steps lead from there
abbrev pub AreLinks : List Meaning → ℕ → ℤ → List (List ℤ) → List Bits → Type 0
AreLinks terms n q rows unions = (e t : ℕ) → e < n → (bit_in (set_at unions e) t ≡ 1)
    ↔ IsArc terms q rows e t

-- and at least these
abbrev pub HaveLinks : List Meaning → ℕ → ℤ → List (List ℤ) → List Bits → Type 0
HaveLinks terms n q rows unions = (e t : ℕ) → e < n → IsArc terms q rows e t
    → bit_in (set_at unions e) t ≡ 1

-- the rows of the places of a set are brought up to the unions, and all others stay
pub record AreRenewed (tables : List (List Bits)) (spots : List (List Spot)) (places : Bits)
    (before after : List Bits) : Type 0 where
  pub count : length after ≡ length before
  pub renewed : (e : ℕ) → bit_in places e ≡ 1
      → IsUnion tables (spots_at spots e) (length (spots_at spots e)) (set_at after e)
  pub others : (e : ℕ) → bit_in places e ≢ 1 → set_at after e ≡ set_at before e

-- the rows of the first k places of a term whose ground places are in the set are put into the
-- unions there, and all others stay
pub record AreWidened (places : List ℕ) (table : List Bits) (grown : Bits) (k : ℕ)
    (before after : List Bits) : Type 0 where
  pub count : length after ≡ length before
  pub widened : (u : ℕ) → u < k → bit_in grown (slice_index_or places u 0) ≡ 1 → (t : ℕ)
      → bit_in (set_at after (slice_index_or places u 0)) t ≡ max
      (bit_in (set_at before (slice_index_or places u 0)) t) (bit_in (set_at table u) t)
  pub others : (e : ℕ) → ((u : ℕ) → u < k → bit_in grown (slice_index_or places u 0) ≡ 1
      → slice_index_or places u 0 ≢ e) → set_at after e ≡ set_at before e
