-- Where a table breaks the local law of submodularity, and which such place comes first.
use Rattle.std.specs.Prelude.{◌≡◌, ◌⊎◌, ℕ, ◌<◌, ◌≤◌, ◌^◌, Bool, true, false, List, set, slice_index_or, ℤ, pos, ◌+ℤ◌, ◌<ℤ◌}
use Rattle.sfm_spec.specs.Kinds.{binary}
use Rattle.sfm_simple.specs.Subsets.{members}

-- the number that is listed for a set
abbrev pub listed_at : List ℤ → List Bool → ℤ
listed_at values s = slice_index_or values (binary s) (pos 0)

-- s with a and s with b have less in all than s with both and s
abbrev pub GainsMore : List ℤ → List Bool → ℕ → ℕ → Type 0
GainsMore values s a b = (listed_at values (set s a true) +ℤ listed_at values (set s b true))
    <ℤ (listed_at values (set (set s a true) b true) +ℤ listed_at values s)

-- the set with the number n, and the places a and b outside it, break the law
pub record BreaksLaw (values : List ℤ) (k n a b : ℕ) : Type 0 where
  pub number : n < 2 ^ k
  pub ordered : a < b
  pub in_range : b < k
  pub first_out : slice_index_or (members k n) a false ≡ false
  pub second_out : slice_index_or (members k n) b false ≡ false
  pub more : GainsMore values (members k n) a b

-- by the set's number, then the first place, then the second
abbrev pub ComesNoLater : ℕ → ℕ → ℕ → ℕ → ℕ → ℕ → Type 0
ComesNoLater n a b m c d = (n < m) ⊎ ((n ≡ m) × ((a < c) ⊎ ((a ≡ c) × (b ≤ d))))

-- no other place comes before it
pub record IsFirstBreach (values : List ℤ) (k n a b : ℕ) : Type 0 where
  pub breaks : BreaksLaw values k n a b
  pub first : (m c d : ℕ) → BreaksLaw values k m c d → ComesNoLater n a b m c d

-- of the set with the number n and the place a, b is the first second place
pub record IsFirstSecond (values : List ℤ) (k n a b : ℕ) : Type 0 where
  pub breaks : BreaksLaw values k n a b
  pub first : (d : ℕ) → BreaksLaw values k n a d → b ≤ d

-- of the set with the number n, a and b are the first pair
pub record IsFirstPair (values : List ℤ) (k n a b : ℕ) : Type 0 where
  pub breaks : BreaksLaw values k n a b
  pub first : (c d : ℕ) → BreaksLaw values k n c d → (a < c) ⊎ ((a ≡ c) × (b ≤ d))
