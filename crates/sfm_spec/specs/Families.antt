-- Sums of set functions over one ground, their minimisers, and what proves a minimum.
-- A shift is a number for each element; the plain case at a slope p/q is the shift that is p everywhere.
-- Textbook: Schrijver, Combinatorial Optimization, sections 44 and 45; Fujishige, Submodular Functions and Optimization.
use Rattle.std.specs.Prelude.{◌≡◌, ◌≢◌, ℕ, ◌<◌, Bool, List, [], ◌∷◌, length, map, replicate, slice_index_or, ℤ, pos, ◌+ℤ◌, ◌-ℤ◌, ◌*ℤ◌, ◌≤ℤ◌, ◌<ℤ◌, Option, IsSome, unwrap_or, nat_eq, zero, suc, if◌then◌else◌}
use Rattle.std.specs.Int.{int_min}
use Rattle.sfm_spec.specs.Sets.{part, sum_over, IsPlaced, IsWithin, Has}
use Rattle.sfm_spec.specs.Terms.{SetFunction, times, IsBase, IsTight, IsFamily, IsSubmodular}

-- what a term means: its places in the ground, and its value on each part
pub record Meaning : Type 0 where
  pub places : List ℕ
  pub value : SetFunction

-- a term's value at a set of the ground
abbrev pub value_at : Meaning → List Bool → Option ℤ
value_at term s = term.value (part term.places s)

-- every term allows s
abbrev pub IsAllowed : List Meaning → List Bool → Type 0
IsAllowed [] s = Unit {0}
IsAllowed (term ∷ terms) s = IsSome (value_at term s) × IsAllowed terms s

-- the sum of all terms at an allowed set
abbrev pub sum_at : List Meaning → List Bool → ℤ
sum_at [] s = pos 0
sum_at (term ∷ terms) s = unwrap_or (value_at term s) (pos 0) +ℤ sum_at terms s

-- q times the sum, less the shift of each element of s
abbrev pub shifted_at : List Meaning → ℤ → List ℤ → List Bool → ℤ
shifted_at terms q shift s = q *ℤ sum_at terms s -ℤ sum_over s shift

-- the shift of p for each of n elements
abbrev pub even_shift : ℕ → ℤ → List ℤ
even_shift n p = replicate n p

-- the shift of p for each unit of size
abbrev pub sized_shift : List ℤ → ℤ → List ℤ
sized_shift sizes p = map (λ w. p *ℤ w) sizes

-- an allowed set of which q times the sum less the shift is least
pub record IsMinimiser (terms : List Meaning) (n : ℕ) (q : ℤ) (shift : List ℤ) (s : List Bool) : Type 0 where
  pub places : length s ≡ n
  pub allowed : IsAllowed terms s
  pub least : (t : List Bool) → length t ≡ n → IsAllowed terms t → shifted_at terms q shift s ≤ℤ shifted_at terms q shift t

-- the minimiser within all
pub record IsLeast (terms : List Meaning) (n : ℕ) (q : ℤ) (shift : List ℤ) (s : List Bool) : Type 0 where
  pub minimiser : IsMinimiser terms n q shift s
  pub within : (t : List Bool) → IsMinimiser terms n q shift t → IsWithin s t

-- the minimiser that has all others within
pub record IsGreatest (terms : List Meaning) (n : ℕ) (q : ℤ) (shift : List ℤ) (s : List Bool) : Type 0 where
  pub minimiser : IsMinimiser terms n q shift s
  pub within : (t : List Bool) → IsMinimiser terms n q shift t → IsWithin t s

-- a slope at which there are two minimisers, with the greatest
pub record IsBreakpoint (terms : List Meaning) (n : ℕ) (sizes : List ℤ) (p q : ℤ) (s : List Bool) : Type 0 where
  pub greatest : IsGreatest terms n q (sized_shift sizes p) s
  pub another : (t : List Bool) × IsMinimiser terms n q (sized_shift sizes p) t × (t ≢ s)

-- the places of each term are different ones of the ground
abbrev pub ArePlaced : ℕ → List Meaning → Type 0
ArePlaced n [] = Unit {0}
ArePlaced n (term ∷ terms) = IsPlaced n term.places × ArePlaced n terms

-- the places of a term are those of the ground, and its value keeps the two laws
pub record IsTerm (n : ℕ) (term : Meaning) : Type 0 where
  pub placed : IsPlaced n term.places
  pub family : IsFamily (length term.places) term.value
  pub submodular : IsSubmodular (length term.places) term.value

-- each is a term over the ground
abbrev pub AreTerms : ℕ → List Meaning → Type 0
AreTerms n [] = Unit {0}
AreTerms n (term ∷ terms) = IsTerm n term × AreTerms n terms

-- the meanings of a list of objects, by what each tells of its places and its value
abbrev pub meanings : {X : Type 0} → (X → List ℕ) → (X → SetFunction) → List X → List Meaning
meanings places value [] = []
meanings places value (x ∷ xs) = record { places = places x; value = value x } ∷ meanings places value xs

-- what a term's base gives the ground place e
abbrev pub entry_at : List ℕ → List ℤ → ℕ → ℤ
entry_at [] x e = pos 0
entry_at (place ∷ places) [] e = pos 0
entry_at (place ∷ places) (a ∷ x) e = (if nat_eq place e then a else pos 0) +ℤ entry_at places x e

-- the sum of the bases at e
abbrev pub base_sum_at : List Meaning → List (List ℤ) → ℕ → ℤ
base_sum_at [] bases e = pos 0
base_sum_at (term ∷ terms) [] e = pos 0
base_sum_at (term ∷ terms) (x ∷ bases) e = entry_at term.places x e +ℤ base_sum_at terms bases e

-- z: the sum of the bases at e, less the shift there
abbrev pub rest_at : List Meaning → List (List ℤ) → List ℤ → ℕ → ℤ
rest_at terms bases shift e = base_sum_at terms bases e -ℤ slice_index_or shift e (pos 0)

-- one base of q times each term
abbrev pub AreBases : ℤ → List Meaning → List (List ℤ) → Type 0
AreBases q [] [] = Unit {0}
AreBases q [] (x ∷ bases) = ⊥
AreBases q (term ∷ terms) [] = ⊥
AreBases q (term ∷ terms) (x ∷ bases) = (length x ≡ length term.places) × IsBase (times q term.value) x × AreBases q terms bases

-- the sum of min(z(e), 0) over the first n places
abbrev pub deficit : ℕ → (ℕ → ℤ) → ℤ
deficit zero z = pos 0
deficit (suc n) z = int_min (z 0) (pos 0) +ℤ deficit n (λ e. z (suc e))

-- the bases prove the least value: the sum of min(z(e), 0) is the value of a minimiser
abbrev pub Prove : List Meaning → ℕ → ℤ → List ℤ → List (List ℤ) → Type 0
Prove terms n q shift bases = (s : List Bool) × IsMinimiser terms n q shift s × (shifted_at terms q shift s ≡ deficit n (rest_at terms bases shift))

-- s has all places with z < 0 and none with z > 0
pub record IsSigned (n : ℕ) (z : ℕ → ℤ) (s : List Bool) : Type 0 where
  pub below : (e : ℕ) → e < n → z e <ℤ pos 0 → Has s e
  pub above : (e : ℕ) → e < n → pos 0 <ℤ z e → Has s e → ⊥

-- the part of s in each term is tight
abbrev pub AreTight : ℤ → List Meaning → List (List ℤ) → List Bool → Type 0
AreTight q [] bases s = Unit {0}
AreTight q (term ∷ terms) [] s = ⊥
AreTight q (term ∷ terms) (x ∷ bases) s = IsTight (times q term.value) x (part term.places s) × AreTight q terms bases s
