-- Bytes that were put at the end of a page, and its room.
use Rattle.std.specs.Prelude.{ℕ, List}

-- the bytes in order, and how many more there is room for
pub record PageData : Type 0 where
  pub bytes : List ℕ
  pub spare : ℕ
