-- The names of the elements.
use Rattle.std.specs.Prelude.{◌≡◌, ◌⊎◌, ℕ, ◌≤◌, List, length}
use Rattle.std.specs.List.{All}

-- a letter, a digit or `_`
abbrev pub IsNameByte : ℕ → Type 0
IsNameByte c = ((48 ≤ c) × (c ≤ 57)) ⊎ ((65 ≤ c) × (c ≤ 90)) ⊎ (c ≡ 95) ⊎ ((97 ≤ c) × (c ≤ 122))

-- 1 to 32 of them
pub record IsName (name : List ℕ) : Type 0 where
  pub some : 1 ≤ length name
  pub short : length name ≤ 32
  pub bytes : All IsNameByte name
