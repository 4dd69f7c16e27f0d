-- What bases add up to at each place, as a list.
use Rattle.std.specs.Prelude.{ℕ, zero, suc, List, [], ◌∷◌, ℤ}
use Rattle.sfm_spec.specs.Families.{Meaning, base_sum_at}
use Rattle.sfm_squares.specs.Level.{squares}

-- the first n values of a function
abbrev pub first_values : ℕ → (ℕ → ℤ) → List ℤ
first_values zero f = []
first_values (suc n) f = f 0 ∷ first_values n (λ e. f (suc e))

-- the sum of the bases at each of n places
abbrev pub sums_of : List Meaning → ℕ → List (List ℤ) → List ℤ
sums_of terms n bases = first_values n (base_sum_at terms bases)

-- the squares of that, added
abbrev pub squares_at : List Meaning → ℕ → List (List ℤ) → ℤ
squares_at terms n bases = squares (sums_of terms n bases)
