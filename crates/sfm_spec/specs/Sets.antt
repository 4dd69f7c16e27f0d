-- Sets of places, as lists of truth values, and sums over them.
use Rattle.std.specs.Prelude.{◌≡◌, ℕ, ◌<◌, Bool, true, false, ◌&&◌, ◌||◌, not, List, [], ◌∷◌, map, replicate, length, slice_index_or, ℤ, pos, ◌+ℤ◌, if◌then◌else◌, count_by, nat_abs}

-- the place e is in the set s
abbrev pub Has : List Bool → ℕ → Type 0
Has s e = slice_index_or s e false ≡ true

-- the set of none of n places
abbrev pub empty_set : ℕ → List Bool
empty_set n = replicate n false

-- the set of all of n places
abbrev pub whole_set : ℕ → List Bool
whole_set n = replicate n true

-- the places that are in either set
abbrev pub union : List Bool → List Bool → List Bool
union [] t = []
union (a ∷ s) [] = []
union (a ∷ s) (b ∷ t) = (a || b) ∷ union s t

-- the places that are in both sets
abbrev pub intersection : List Bool → List Bool → List Bool
intersection [] t = []
intersection (a ∷ s) [] = []
intersection (a ∷ s) (b ∷ t) = (a && b) ∷ intersection s t

abbrev pub complement : List Bool → List Bool
complement s = map not s

-- each place of s is in t
abbrev pub IsWithin : List Bool → List Bool → Type 0
IsWithin s t = (e : ℕ) → Has s e → Has t e

-- how many places are in s
abbrev pub size : List Bool → ℕ
size s = count_by (λ b. b) s

-- the sum of the entries of x at the places of s
abbrev pub sum_over : List Bool → List ℤ → ℤ
sum_over [] x = pos 0
sum_over (b ∷ s) [] = pos 0
sum_over (b ∷ s) (a ∷ x) = (if b then a else pos 0) +ℤ sum_over s x

-- the sum of the magnitudes of all entries
abbrev pub magnitudes : List ℤ → ℤ
magnitudes [] = pos 0
magnitudes (a ∷ x) = pos (nat_abs a) +ℤ magnitudes x

-- the numbers of a list all differ
abbrev pub AreDistinct : List ℕ → Type 0
AreDistinct places = (i j : ℕ) → i < length places → j < length places → slice_index_or places i 0 ≡ slice_index_or places j 0 → i ≡ j

-- places of a ground of n, all different
pub record IsPlaced (n : ℕ) (places : List ℕ) : Type 0 where
  pub below : (j : ℕ) → j < length places → slice_index_or places j 0 < n
  pub distinct : AreDistinct places

-- the part of s at the places of a term: s read at these places
abbrev pub part : List ℕ → List Bool → List Bool
part places s = map (λ e. slice_index_or s e false) places
