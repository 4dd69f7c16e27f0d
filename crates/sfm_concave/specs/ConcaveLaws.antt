-- A concave function of the count: the numbers for 1, 2, .. places, where no increment is above the one before.
use Rattle.std.proofs.Common.{◌≡◌, ℕ, zero, suc, ◌+◌, ◌-◌, ◌<◌, ◌≤◌, List, ◌∷◌, length, map, get_or, ℤ, pos, neg_ℤ, ◌+ℤ◌, ◌-ℤ◌, ◌*ℤ◌, ◌≤ℤ◌, ◌<ℤ◌, Bool, Some, refl, ap, ◌∙◌, arith}
use Rattle.std.specs.List.{All, range_with_len}
use Rattle.std.proofs.lemmas.Int.{ints, by_lt_z}
use Rattle.std.proofs.lemmas.List.FromFn.{length-map-range_with_len, get_or-map-range_with_len}
use Rattle.sfm_spec.specs.Sets.{size}
use Rattle.sfm_spec.specs.Terms.{times, IsBase, IsFamily, IsSubmodular, IsGreedy}
use Rattle.sfm_spec.specs.Kinds.{concave_value}
use Rattle.sfm_law.proofs.Greedy.{greedy_base, greedy_small}
use Rattle.sfm_law.proofs.Entries.{greatest-low, listed-small}
pub use Rattle.sfm_law.specs.Values.{greatest}
use Rattle.sfm_concave.specs.Counts.{IsFalling, counted, counted-family, counted-submodular, counted-greedy}
use Rattle.sfm_law.proofs.Multiples.{map-times, times-once}

-- the number of a count: 0 of none, and then the listed ones
abbrev pub number_of : List ℤ → ℕ → ℤ
number_of g c = get_or (pos 0 ∷ g) c (pos 0)

-- the same, q times
abbrev pub scaled : ℤ → List ℤ → ℕ → ℤ
scaled q g c = q *ℤ number_of g c

-- what count number at adds to the one before
abbrev pub increment : List ℤ → ℕ → ℤ
increment g at = number_of g at -ℤ number_of g (at - 1)

-- increment number at, counted from 1, is above the one before
pub record RisesAt (g : List ℤ) (at : ℕ) : Type 0 where
  pub from : 2 ≤ at
  pub to : at ≤ length g
  pub more : increment g (at - 1) <ℤ increment g at

-- and it is the first such one
pub record IsFirstRise (g : List ℤ) (at : ℕ) : Type 0 where
  pub rises : RisesAt g at
  pub first : (i : ℕ) → i < at → RisesAt g i → ⊥

-- no increment is above the one before
abbrev pub NeverRises : List ℤ → Type 0
NeverRises g = (at : ℕ) → RisesAt g at → ⊥

-- what the place j adds to those before it, q times
abbrev pub gain_of : ℤ → List ℤ → ℕ → ℤ
gain_of q g j = q *ℤ (number_of g (j + 1) -ℤ number_of g j)

-- the start: what each place adds to those before it
abbrev pub concave_start : ℤ → List ℤ → ℕ → List ℤ
concave_start q g k = map (λ j. gain_of q g j) (range_with_len 0 k)

-- ---- the law

pub increment-suc : (g : List ℤ) (c : ℕ) → increment g (suc c) ≡ (number_of g (suc c) -ℤ number_of g c)
increment-suc g c = let e : suc c - 1 ≡ c = omega arith in rw e refl

pub falling : (g : List ℤ) → NeverRises g → IsFalling (length g) (number_of g)
falling g never = record { none = refl; falls = falls } where
  falls : (c : ℕ) → suc (suc c) ≤ length g → (number_of g (suc (suc c)) +ℤ number_of g c) ≤ℤ (number_of g (suc c) +ℤ number_of g (suc c))
  falls c lt =
      let one = increment-suc g c in
      let two = increment-suc g (suc c) in
      let before : suc (suc c) - 1 ≡ suc c = omega arith in
      let same = ap (λ i. increment g i) before in
      by_lt_z (increment g (suc c)) (increment g (suc (suc c)))
      (λ more. absurd (never (suc (suc c)) (record { from = omega arith; to = lt; more = omega (arith, ints, same, more) })))
      (λ fine. omega (arith, ints, fine, one, two))

pub concave-family : {k : ℕ} (g : List ℤ) → IsFamily k (concave_value g)
concave-family g = counted-family (number_of g)

pub concave-submodular : (k : ℕ) (g : List ℤ) → length g ≡ k → NeverRises g → IsSubmodular k (concave_value g)
concave-submodular k g same never = rw (← same) (counted-submodular (length g) (number_of g) (falling g never))

-- ---- the size

number-small : (g : List ℤ) (c : ℕ) → (neg_ℤ (greatest g) ≤ℤ number_of g c) × (number_of g c ≤ℤ greatest g)
number-small g zero = let r = greatest-low g in (omega (arith, ints, r), omega (arith, ints, r))
number-small g (suc c) = listed-small g c

pub concave-bounded : (g : List ℤ) (s : List Bool) (a : ℤ) → concave_value g s ≡ Some a → (neg_ℤ (greatest g) ≤ℤ a) × (a ≤ℤ greatest g)
concave-bounded g s a e = let f : number_of g (size s) ≡ a = cc in rw (← f) (number-small g (size s))

-- ---- the start

pub concave-greedy : (k : ℕ) (q : ℤ) (g : List ℤ) → IsGreedy q (concave_value g) k (concave_start q g k)
concave-greedy k q g = counted-greedy k q (number_of g) (concave_start q g k) (length-map-range_with_len (λ j. gain_of q g j) 0 k)
    (λ j lt. get_or-map-range_with_len (λ i. gain_of q g i) 0 k j j (pos 0) lt (omega arith) ∙ (let e : j + 1 ≡ suc j = omega arith in rw e refl))

pub concave-starts : (k : ℕ) (q : ℤ) (g : List ℤ) → pos 1 ≤ℤ q → length g ≡ k → NeverRises g → (length (concave_start q g k) ≡ k) × IsBase (times q (concave_value g)) (concave_start q g k)
concave-starts k q g low same never =
    let greedy = concave-greedy k q g in
    (greedy.places, greedy_base k q (counted (number_of g)) (concave_start q g k) (omega (arith, ints)) (concave-submodular k g same never) greedy)

pub concave-starts_small : (k : ℕ) (q : ℤ) (g : List ℤ) → pos 1 ≤ℤ q → All (λ a. (neg_ℤ ((pos 2 *ℤ q) *ℤ greatest g) ≤ℤ a) × (a ≤ℤ ((pos 2 *ℤ q) *ℤ greatest g))) (concave_start q g k)
concave-starts_small k q g low = greedy_small k q (greatest g) (counted (number_of g)) (concave_start q g k) (omega (arith, ints)) (λ s ks. number-small g (size s)) (concave-greedy k q g)

pub concave-starts_times : (k : ℕ) (q : ℤ) (g : List ℤ) → concave_start q g k ≡ map (λ a. q *ℤ a) (concave_start (pos 1) g k)
concave-starts_times k q g = map-times q (λ j. gain_of q g j) (λ j. gain_of (pos 1) g j) (λ j. times-once q _) (range_with_len 0 k)
