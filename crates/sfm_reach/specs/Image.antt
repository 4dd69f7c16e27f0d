-- A part of a term with its ground places.
use Rattle.std.specs.Prelude.{◌≡◌, ◌↔◌, ℕ, ◌<◌, Bool, true, List, length, slice_index_or}
use Rattle.sfm_reach.specs.declared.bits.Bits.{Bits}
use Rattle.sfm_reach.specs.Bits.{HasPlaces, bit_in}

-- the places of a term are the first of the ground, in their order
abbrev pub AreInOrder : List ℕ → Type 0
AreInOrder places = (u : ℕ) → u < length places → slice_index_or places u 0 ≡ u

-- s has the ground places of those that another set has
abbrev pub HasImages : List ℕ → Bits → Bits → Type 0
HasImages places from s = (e : ℕ) → (bit_in s e ≡ 1)
    ↔ ((v : ℕ) × (v < length places) × (bit_in from v ≡ 1) × (slice_index_or places v 0 ≡ e))

-- the set has the ground places of the part, of a term with these places; they are in order where
-- that is told
pub record IsImage (places : List ℕ) (part : List Bool) (bits : Bits) (in_order : Bool) : Type
    0 where
  pub count : length part ≡ length places
  pub exact : HasPlaces places part (length places) bits
  pub order : in_order ≡ true → AreInOrder places
