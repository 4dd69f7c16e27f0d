-- What an answer on room says of reach.
use Rattle.std.specs.Prelude.{pos, ◌≤ℤ◌}
use Rattle.sfm_law.specs.declared.room.Room.{Room}
use Rattle.sfm_law.specs.declared.room.Room.TheVariants.{Upto, Unbounded}

-- something can be exchanged
abbrev pub IsOpen : Room → Type 0
IsOpen (Upto a) = pos 1 ≤ℤ a
IsOpen Unbounded = Unit {0}
