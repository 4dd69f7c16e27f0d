-- Set functions, their bases, tight parts and exchange capacities.
use Rattle.std.specs.Prelude.{◌≡◌, ◌≢◌, ◌↔◌, ℕ, ◌+◌, ◌-◌, ◌<◌, Bool, true, false, List, ◌++◌, length, replicate, set, slice_index_or, ℤ, pos, ◌+ℤ◌, ◌-ℤ◌, ◌*ℤ◌, ◌≤ℤ◌, Option, Some, IsSome}
use Rattle.std.specs.Option.{option_map}
use Rattle.sfm_spec.specs.Sets.{empty_set, whole_set, union, intersection, sum_over, Has}

-- Some of the value at an allowed set, None at the others
abbrev pub SetFunction : Type 0
SetFunction = List Bool → Option ℤ

-- q times f
abbrev pub times : ℤ → SetFunction → SetFunction
times q f s = option_map (λ a. q *ℤ a) (f s)

-- on sets of k places: the empty and the whole set are allowed, and so are unions and intersections of allowed sets
pub record IsFamily (k : ℕ) (f : SetFunction) : Type 0 where
  pub empty : IsSome (f (empty_set k))
  pub whole : IsSome (f (whole_set k))
  pub unions : (s t : List Bool) → length s ≡ k → length t ≡ k → IsSome (f s) → IsSome (f t) → IsSome (f (union s t))
  pub intersections : (s t : List Bool) → length s ≡ k → length t ≡ k → IsSome (f s) → IsSome (f t) → IsSome (f (intersection s t))

-- the empty set has the value 0, and no two allowed sets have less in all than their union and their intersection
pub record IsSubmodular (k : ℕ) (f : SetFunction) : Type 0 where
  pub at_empty : f (empty_set k) ≡ Some (pos 0)
  pub submodular : (s t : List Bool) (a b c d : ℤ) → length s ≡ k → length t ≡ k
      → f s ≡ Some a → f t ≡ Some b → f (union s t) ≡ Some c → f (intersection s t) ≡ Some d → (c +ℤ d) ≤ℤ (a +ℤ b)

-- x is a base of f: no allowed set gets more than its value, and the whole gets all of it
pub record IsBase (f : SetFunction) (x : List ℤ) : Type 0 where
  pub within : (s : List Bool) (a : ℤ) → length s ≡ length x → f s ≡ Some a → sum_over s x ≤ℤ a
  pub total : f (whole_set (length x)) ≡ Some (sum_over (whole_set (length x)) x)

-- the first j of k places
abbrev pub first_places : ℕ → ℕ → List Bool
first_places k j = replicate j true ++ replicate (k - j) false

-- each place gets what it adds to the value of those before it, q times: the greedy vector
pub record IsGreedy (q : ℤ) (f : SetFunction) (k : ℕ) (x : List ℤ) : Type 0 where
  pub places : length x ≡ k
  pub gains : (j : ℕ) (a b : ℤ) → j < k → f (first_places k (j + 1)) ≡ Some a → f (first_places k j) ≡ Some b → slice_index_or x j (pos 0) ≡ (q *ℤ (a -ℤ b))

-- s gets all of its value
abbrev pub IsTight : SetFunction → List ℤ → List Bool → Type 0
IsTight f x s = f s ≡ Some (sum_over s x)

-- x with u raised and v lowered by a
abbrev pub exchanged : List ℤ → ℕ → ℕ → ℤ → List ℤ
exchanged x u v a = set (set x u (slice_index_or x u (pos 0) +ℤ a)) v (slice_index_or x v (pos 0) -ℤ a)

-- a is the greatest number by which u can be raised and v lowered so that a base stays
pub record IsCapacity (f : SetFunction) (x : List ℤ) (u v : ℕ) (a : ℤ) : Type 0 where
  pub reached : IsBase f (exchanged x u v a)
  pub greatest : (b : ℤ) → IsBase f (exchanged x u v b) → b ≤ℤ a

-- every number that is not negative can be so exchanged
abbrev pub IsUncapped : SetFunction → List ℤ → ℕ → ℕ → Type 0
IsUncapped f x u v = (a : ℤ) → pos 0 ≤ℤ a → IsBase f (exchanged x u v a)

-- no allowed set has u and not v
abbrev pub IsUnsplit : SetFunction → ℕ → ℕ → ℕ → Type 0
IsUnsplit f k u v = (s : List Bool) → length s ≡ k → IsSome (f s) → Has s u → Has s v

-- something can be exchanged
abbrev pub HasRoom : SetFunction → List ℤ → ℕ → ℕ → Type 0
HasRoom f x u v = (a : ℤ) × (pos 1 ≤ℤ a) × IsBase f (exchanged x u v a)

-- s holds, with each of its places, all to which it has room
abbrev pub HoldsReach : SetFunction → List ℤ → List Bool → Type 0
HoldsReach f x s = (u v : ℕ) → u < length x → v < length x → u ≢ v → Has s u → HasRoom f x u v → Has s v

-- a tight set of as many places as x has
pub record IsTightSet (f : SetFunction) (x : List ℤ) (s : List Bool) : Type 0 where
  pub places : length s ≡ length x
  pub tight : IsTight f x s

-- what is known of the tight sets of a base
pub record TightLaws (f : SetFunction) (x : List ℤ) : Type 0 where
  pub unions : (s t : List Bool) → IsTightSet f x s → IsTightSet f x t → IsTightSet f x (union s t)
  pub intersections : (s t : List Bool) → IsTightSet f x s → IsTightSet f x t → IsTightSet f x (intersection s t)
  pub exact : (s : List Bool) → length s ≡ length x → IsTight f x s ↔ HoldsReach f x s
