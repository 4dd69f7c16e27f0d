-- What a term answers about exchanges.
use Rattle.std.specs.Prelude.{◌≡◌, ◌≢◌, ◌↔◌, ℕ, ◌<◌, Bool, List, length, ℤ, pos, ◌≤ℤ◌}
use Rattle.sfm_spec.specs.Sets.{Has}
use Rattle.sfm_spec.specs.Terms.{SetFunction, IsBase, IsCapacity, IsUncapped, IsUnsplit, HasRoom, exchanged}
use Rattle.sfm_law.specs.declared.room.Room.{Room}
use Rattle.sfm_law.specs.declared.room.Room.TheVariants.{Upto, Unbounded}

-- the room of (u, v): the greatest number that can be exchanged, or unbounded exactly where no
-- allowed set splits u from v
abbrev pub IsRoom : SetFunction → List ℤ → ℕ → ℕ → Room → Type 0
IsRoom f x u v (Upto a) = IsCapacity f x u v a
IsRoom f x u v Unbounded = IsUncapped f x u v × IsUnsplit f (length x) u v

-- a is at most the room
abbrev pub AtMostRoom : ℤ → Room → Type 0
AtMostRoom a (Upto b) = a ≤ℤ b
AtMostRoom a Unbounded = Unit {0}

-- a is at most the room of (u, v)
abbrev pub IsWithinRoom : SetFunction → List ℤ → ℕ → ℕ → ℤ → Type 0
IsWithinRoom f x u v a = (room : Room) × IsRoom f x u v room × AtMostRoom a room

-- a is the greatest number up to a limit by which u can be raised and v lowered so that a base
-- stays
pub record IsCapacityUpto (f : SetFunction) (x : List ℤ) (u v : ℕ) (limit a : ℤ) : Type 0 where
  pub low : pos 0 ≤ℤ a
  pub high : a ≤ℤ limit
  pub reached : IsBase f (exchanged x u v a)
  pub greatest : (b : ℤ) → b ≤ℤ limit → IsBase f (exchanged x u v b) → b ≤ℤ a

-- the places other than u to which u has room
pub record IsReach (f : SetFunction) (x : List ℤ) (u : ℕ) (to : List Bool) : Type 0 where
  pub places : length to ≡ length x
  pub exact : (v : ℕ) → v < length x → Has to v ↔ ((v ≢ u) × HasRoom f x u v)
