-- The names of the elements of an instance.
use Rattle.std.specs.Prelude.{◌≢◌, ℕ, ◌≤◌, List, length, AllPairs}
use Rattle.std.specs.List.{All}
use Rattle.sfm_spec.specs.Names.{IsName}

-- the name is none of the names
abbrev pub IsNewName : List (List ℕ) → List ℕ → Type 0
IsNewName names name = All (λ other. other ≢ name) names

-- at most 256 names, all of good form and all different
pub record AreElementNames (names : List (List ℕ)) : Type 0 where
  pub few : length names ≤ 256
  pub forms : All IsName names
  pub distinct : AllPairs (λ a b. a ≢ b) names
