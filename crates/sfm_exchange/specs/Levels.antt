-- Levels of places by their distances to those with z > 0.
use Rattle.std.specs.Prelude.{◌≡◌, ◌↔◌, ℕ, suc, ◌+◌, ◌<◌, ◌≤◌, List, [], ◌∷◌, length, slice_index_or, nat_eq, ℤ, pos, ◌<ℤ◌, if◌then◌else◌}
use Rattle.sfm_reach.specs.declared.bits.Bits.{Bits}
use Rattle.sfm_reach.specs.Bits.{bit_in, set_at}
use Rattle.sfm_exchange.specs.declared.path.Stuck.{Stuck}

-- from e a link leads into the set
abbrev pub LeadsInto : List Bits → ℕ → Bits → Type 0
LeadsInto unions e s = (t : ℕ) × (bit_in (set_at unions e) t ≡ 1) × (bit_in s t ≡ 1)

-- the number of the first level that has e, and that of all levels where none has
abbrev pub depth_of : List Bits → ℕ → ℕ
depth_of [] e = 0
depth_of (level ∷ levels) e = if nat_eq (bit_in level e) 1 then 0 else suc (depth_of levels e)

-- levels of n places, of which no two have a place in common
pub record AreParted (n : ℕ) (levels : List Bits) : Type 0 where
  pub below : (k e : ℕ) → k < length levels → bit_in (set_at levels k) e ≡ 1 → e < n
  pub apart : (j k e : ℕ) → j < length levels → k < length levels → bit_in (set_at levels j) e ≡ 1
      → bit_in (set_at levels k) e ≡ 1 → j ≡ k

-- the last level has the place
pub record IsAtLast (levels : List Bits) (e : ℕ) : Type 0 where
  pub some : 0 < length levels
  pub last : (k : ℕ) → k + 1 ≡ length levels → bit_in (set_at levels k) e ≡ 1

-- a place of a level, from which no link leads into the one below
pub record IsStuck (unions levels : List Bits) (stuck : Stuck) : Type 0 where
  pub some : 0 < stuck.level
  pub level_in : stuck.level < length levels
  pub has : bit_in (set_at levels stuck.level) stuck.place ≡ 1
  pub none : (j : ℕ) → j + 1 ≡ stuck.level → LeadsInto unions stuck.place (set_at levels j) → ⊥

-- levels of n places: the first has those with z > 0, no two have a place in common, each place of
-- a further level leads into the one before, and all that lead into a level but the last are in
-- levels up to the next; only the last may have z < 0
pub record AreLevels (n : ℕ) (unions : List Bits) (z : List ℤ) (levels : List Bits) : Type 0 where
  pub some : 0 < length levels
  pub over : (e : ℕ) → (bit_in (set_at levels 0) e ≡ 1)
      ↔ ((e < n) × (pos 0 <ℤ slice_index_or z e (pos 0)))
  pub below : (k e : ℕ) → k < length levels → bit_in (set_at levels k) e ≡ 1 → e < n
  pub apart : (j k e : ℕ) → j < length levels → k < length levels → bit_in (set_at levels j) e ≡ 1
      → bit_in (set_at levels k) e ≡ 1 → j ≡ k
  pub leads : (k e : ℕ) → k + 1 < length levels → bit_in (set_at levels (k + 1)) e ≡ 1
      → LeadsInto unions e (set_at levels k)
  pub closed : (k e : ℕ) → k + 1 < length levels → e < n → LeadsInto unions e (set_at levels k)
      → (j : ℕ) × (j ≤ k + 1) × (bit_in (set_at levels j) e ≡ 1)
  pub above : (k e : ℕ) → k + 1 < length levels → bit_in (set_at levels k) e ≡ 1
      → slice_index_or z e (pos 0) <ℤ pos 0 → ⊥

-- all places that lead into a level are in one, and none has z < 0
pub record AreClosed (n : ℕ) (unions : List Bits) (z : List ℤ) (levels : List Bits) : Type 0 where
  pub levelled : AreLevels n unions z levels
  pub closed : (k e : ℕ) → k < length levels → e < n → LeadsInto unions e (set_at levels k)
      → (j : ℕ) × (j < length levels) × (bit_in (set_at levels j) e ≡ 1)
  pub above : (k e : ℕ) → k < length levels → bit_in (set_at levels k) e ≡ 1
      → slice_index_or z e (pos 0) <ℤ pos 0 → ⊥

-- the first place of a walk: the last level has it, and z < 0 there
pub record IsFirst (n : ℕ) (unions : List Bits) (z : List ℤ) (levels : List Bits) (first : ℕ) : Type
    0 where
  pub levelled : AreLevels n unions z levels
  pub further : 1 < length levels
  pub last : (k : ℕ) → k + 1 ≡ length levels → bit_in (set_at levels k) first ≡ 1
  pub under : slice_index_or z first (pos 0) <ℤ pos 0

-- from e a link leads into the set, by the sets of those that lead to a place
abbrev pub IsLedBack : List Bits → ℕ → Bits → Type 0
IsLedBack back e s = (t : ℕ) × (t < 256) × (bit_in (set_at back t) e ≡ 1) × (bit_in s t ≡ 1)

-- of the places left those are next from which a link leads into a level, and they are left no more
pub record AreNext (back : List Bits) (level left left' next : Bits) : Type 0 where
  pub parted : (e : ℕ) → bit_in left' e + bit_in next e ≡ bit_in left e
  pub leads : (e : ℕ) → bit_in next e ≡ 1 → IsLedBack back e level
  pub closed : (e : ℕ) → IsLedBack back e level → bit_in left' e ≡ 0
