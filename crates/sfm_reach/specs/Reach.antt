-- The kept rows of what the places of terms reach.
use Rattle.std.specs.Prelude.{◌≡◌, ◌≢◌, ◌↔◌, ℕ, ◌<◌, List, [], length, slice_index_or, ℤ, Option, IfSome}
use Rattle.sfm_spec.specs.Terms.{SetFunction, HasRoom}
use Rattle.sfm_spec.specs.Families.{Meaning}
use Rattle.sfm_spec.specs.Walks.{term_at, base_at, IsStep}
use Rattle.sfm_reach.specs.declared.bits.Bits.{Bits}
use Rattle.sfm_reach.specs.Bits.{bit_in, set_at}

-- the first k rows have the ground places to which each place has room
abbrev pub IsReachTable : List ℕ → SetFunction → List ℤ → ℕ → List Bits → Type 0
IsReachTable places f x k table = (u e : ℕ) → u < k
    → (bit_in (set_at table u) e ≡ 1)
    ↔ ((v : ℕ) × (v < length places) × (v ≢ u) × HasRoom f x u v
    × (slice_index_or places v 0 ≡ e))

-- the row of the place u has the ground places to which it has room
abbrev pub IsRow : List ℕ → SetFunction → List ℤ → ℕ → Bits → Type 0
IsRow places f x u row = (e : ℕ) → (bit_in row e ≡ 1)
    ↔ ((v : ℕ) × (v < length places) × (v ≢ u) × HasRoom f x u v × (slice_index_or places v 0 ≡ e))

-- the rows of the places of a set are those of the base
abbrev pub AreRowsOf : List ℕ → SetFunction → List ℤ → Bits → List Bits → Type 0
AreRowsOf places f x asked table = (u : ℕ) → bit_in asked u ≡ 1
    → IsRow places f x u (set_at table u)

abbrev pub table_at : List (List Bits) → ℕ → List Bits
table_at tables i = slice_index_or tables i []

-- the rows of the term i have the places to which steps by it lead
abbrev pub IsTable : List Meaning → ℤ → List (List ℤ) → ℕ → List Bits → Type 0
IsTable terms q rows i table = (u e : ℕ) → u < length (term_at terms i).places
    → (bit_in (set_at table u) e ≡ 1)
    ↔ IsStep terms q rows (slice_index_or (term_at terms i).places u 0)
    (record { to = e; term = i })

-- one list for each term, as long as the term has places
pub record AreSized {A : Type 0} (places : List (List ℕ)) (lists : List (List A)) : Type 0 where
  pub count : length lists ≡ length places
  pub lengths : (i : ℕ) → i < length places
      → length (slice_index_or lists i []) ≡ length (slice_index_or places i [])

-- the note of each term fits its row
abbrev pub AreNotes : {X N : Type 0} → (X → N → ℤ → List ℤ → Type 0) → ℤ → List X → List N
    → List (List ℤ) → Type 0
AreNotes fits q terms notes rows = (i : ℕ) → i < length terms → (term : _)
    → term ≡ slice_index_or terms i term → (note : _) → note ≡ slice_index_or notes i note
    → fits term note q (base_at rows i)

-- the note that is kept beside a row fits it, if there is one
abbrev pub kept_fits : {X N : Type 0} → (X → N → ℤ → List ℤ → Type 0) → X → Option N → ℤ → List ℤ
    → Type 0
kept_fits fits term kept q x = IfSome kept (λ note. fits term note q x)
