-- Sets that no step leaves or enters, and the places that walks reach. Textbook: Schrijver,
-- Combinatorial Optimization, section 45; Fujishige, Submodular Functions and Optimization, section
-- 4.
use Rattle.std.specs.Prelude.{◌≡◌, ◌≢◌, ◌⊎◌, ℕ, ◌<◌, Bool, List, length, slice_index_or, ℤ, pos, ◌<ℤ◌}
use Rattle.sfm_spec.specs.Sets.{Has, IsWithin}
use Rattle.sfm_spec.specs.Terms.{times, HasRoom}
use Rattle.sfm_spec.specs.Families.{Meaning, rest_at}
use Rattle.sfm_spec.specs.Walks.{Step, term_at, base_at, IsStep, IsWalk, last_of}

-- with the beginning of each step s has its end
abbrev pub IsClosed : List Meaning → ℤ → List (List ℤ) → List Bool → Type 0
IsClosed terms q bases s = (from : ℕ) (step : Step) → IsStep terms q bases from step → Has s from
    → Has s step.to

-- the same, told by the places of each term and by the room between them
abbrev pub HoldsRooms : List Meaning → ℤ → List (List ℤ) → List Bool → Type 0
HoldsRooms terms q bases s = (i : ℕ) → i < length terms → (u v : ℕ)
    → u < length (term_at terms i).places → v < length (term_at terms i).places → u ≢ v
    → Has s (slice_index_or (term_at terms i).places u 0)
    → HasRoom (times q (term_at terms i).value) (base_at bases i) u v
    → Has s (slice_index_or (term_at terms i).places v 0)

-- e is one of the first places, or a walk leads from one of them to e
abbrev pub IsReached : List Meaning → ℤ → List (List ℤ) → (ℕ → Type 0) → ℕ → Type 0
IsReached terms q bases IsFirst e = IsFirst e
    ⊎ ((first : ℕ) × (steps : List Step) × IsFirst first × IsWalk terms q bases first steps
    × (last_of first steps ≡ e))

-- r is the first places with the ends of all walks from them
pub record IsReachedSet (terms : List Meaning) (n : ℕ) (q : ℤ) (bases : List (List ℤ))
    (IsFirst : ℕ → Type 0) (r : List Bool) : Type 0 where
  pub places : length r ≡ n
  pub firsts : (e : ℕ) → e < n → IsFirst e → Has r e
  pub closed : IsClosed terms q bases r
  pub reached : (e : ℕ) → Has r e → IsReached terms q bases IsFirst e

-- with the end of each step s has its beginning
abbrev pub IsClosedBack : List Meaning → ℤ → List (List ℤ) → List Bool → Type 0
IsClosedBack terms q bases s = (from : ℕ) (step : Step) → IsStep terms q bases from step
    → Has s step.to → Has s from

-- the same, told by the places of each term and by the room between them
abbrev pub HoldsRoomsBack : List Meaning → ℤ → List (List ℤ) → List Bool → Type 0
HoldsRoomsBack terms q bases s = (i : ℕ) → i < length terms → (u v : ℕ)
    → u < length (term_at terms i).places → v < length (term_at terms i).places → u ≢ v
    → Has s (slice_index_or (term_at terms i).places v 0)
    → HasRoom (times q (term_at terms i).value) (base_at bases i) u v
    → Has s (slice_index_or (term_at terms i).places u 0)

-- e is one of the last places, or a walk leads from e to one of them
abbrev pub Leads : List Meaning → ℤ → List (List ℤ) → (ℕ → Type 0) → ℕ → Type 0
Leads terms q bases IsLast e = IsLast e
    ⊎ ((steps : List Step) × IsWalk terms q bases e steps × IsLast (last_of e steps))

-- r is the last places with the first places of all walks to them
pub record IsLeadingSet (terms : List Meaning) (n : ℕ) (q : ℤ) (bases : List (List ℤ))
    (IsLast : ℕ → Type 0) (r : List Bool) : Type 0 where
  pub places : length r ≡ n
  pub lasts : (e : ℕ) → e < n → IsLast e → Has r e
  pub closed : IsClosedBack terms q bases r
  pub leads : (e : ℕ) → Has r e → Leads terms q bases IsLast e

-- r lies within each closed set of n places that has the first places, and is one
pub record IsLeastClosed (terms : List Meaning) (n : ℕ) (q : ℤ) (bases : List (List ℤ))
    (IsFirst : ℕ → Type 0) (r : List Bool) : Type 0 where
  pub places : length r ≡ n
  pub firsts : (e : ℕ) → e < n → IsFirst e → Has r e
  pub closed : IsClosed terms q bases r
  pub within : (s : List Bool) → length s ≡ n → IsClosed terms q bases s
      → ((e : ℕ) → e < n → IsFirst e → Has s e) → IsWithin r s

-- z < 0 at the place
abbrev pub IsUnder : List Meaning → List (List ℤ) → List ℤ → ℕ → Type 0
IsUnder terms bases shift e = rest_at terms bases shift e <ℤ pos 0
