-- The bounds of the numbers that the program computes with. With them no sum that it forms exceeds 10^37.
use Rattle.std.specs.Prelude.{ℕ, ◌≤◌, ◌<◌, ◌^◌, List, [], ◌∷◌, length, map, sum, ℤ, pos, neg_ℤ, ◌+ℤ◌, ◌≤ℤ◌}
use Rattle.std.specs.List.{All}
use Rattle.sfm_spec.specs.Sets.{IsPlaced}

-- a magnitude of at most m
pub record IsAtMost (m : ℕ) (a : ℤ) : Type 0 where
  pub low : neg_ℤ (pos m) ≤ℤ a
  pub high : a ≤ℤ pos m

-- an entry of a base, and a number of an answer text: a magnitude of at most 10^30
abbrev pub IsEntry : ℤ → Type 0
IsEntry a = IsAtMost (10 ^ 30) a

-- a number that a term is made of: a magnitude of at most 10^18
abbrev pub IsGiven : ℤ → Type 0
IsGiven a = IsAtMost (10 ^ 18) a

-- the factor of a slope: from 1 to 1,000,000
pub record IsFactor (q : ℤ) : Type 0 where
  pub low : pos 1 ≤ℤ q
  pub high : q ≤ℤ pos (10 ^ 6)

-- the sum of some numbers
abbrev pub total_of : List ℤ → ℤ
total_of [] = pos 0
total_of (a ∷ x) = a +ℤ total_of x

-- at least one place, all of a ground of 256 and different: what each kind of term is made with
pub record AreElements (places : List ℕ) : Type 0 where
  pub some : 0 < length places
  pub placed : IsPlaced 256 places

-- what each call over many terms asks of them, told by their places and their sizes
pub record AreBounded (n : ℕ) (places : List (List ℕ)) (sizes : List ℤ) : Type 0 where
  pub few : n ≤ 256
  pub placed : All (IsPlaced n) places
  pub few_terms : length places ≤ 16384
  pub few_places : sum (map length places) ≤ 16384
  pub small : total_of sizes ≤ℤ pos (10 ^ 18)
