-- What the first bases add up to is small: at no place more than twice the sizes of all terms.
use Rattle.std.proofs.Common.{◌≡◌, ◌≢◌, ◌⊎◌, ℕ, suc, ◌<◌, List, [], ◌∷◌, length, map, get_or, ℤ, pos, neg_ℤ, ◌*ℤ◌, ◌≤ℤ◌, refl, sym, ◌∙◌, arith, inl, inr}
use Rattle.std.specs.List.{All}
use Rattle.std.proofs.lemmas.Bool.{cases_eq, eq-eqb, ne_eqb}
use Rattle.std.proofs.lemmas.Int.{ints}
use Rattle.std.proofs.lemmas.List.Elements.{All-head, All-tail}
use Rattle.sfm_spec.specs.Sets.{IsPlaced}
use Rattle.sfm_spec.specs.Bounds.{total_of}
use Rattle.sfm_spec.specs.Terms.{SetFunction}
use Rattle.sfm_spec.specs.Families.{meanings, entry_at, base_sum_at}

-- within m
abbrev pub IsIn : ℤ → ℤ → Type 0
IsIn m a = (neg_ℤ m ≤ℤ a) × (a ≤ℤ m)

-- no two places are the same
abbrev AreApart : List ℕ → Type 0
AreApart places = (i k : ℕ) → i < length places → k < length places
    → get_or places i 0 ≡ get_or places k 0 → i ≡ k

apart-tail : (p : ℕ) (places : List ℕ) → AreApart (p ∷ places) → AreApart places
apart-tail p places d i k li lk same =
    let e = d (suc i) (suc k) (omega (arith, li)) (omega (arith, lk)) same in omega (arith, e)

-- a place that is none of a term's gets nothing
entry-none : (places : List ℕ) (x : List ℤ) (e : ℕ)
    → ((j : ℕ) → j < length places → get_or places j 0 ≢ e) → entry_at places x e ≡ pos 0
entry-none [] x e h = refl
entry-none (p ∷ places) [] e h = refl
entry-none (p ∷ places) (b ∷ x) e h =
    let r = entry-none places x e (λ j l. h (suc j) (omega (arith, l))) in
    rw (ne_eqb p e (h 0 (omega arith))) (omega (arith, ints, r))

-- what a term gives a place is one of its entries, or nothing
entry-in : (m : ℤ) → pos 0 ≤ℤ m → (places : List ℕ) → AreApart places → (x : List ℤ)
    → All (IsIn m) x → (e : ℕ) → IsIn m (entry_at places x e)
entry-in m low [] d x h e = (omega (arith, ints, low), low)
entry-in m low (p ∷ places) d [] h e = (omega (arith, ints, low), low)
entry-in m low (p ∷ places) d (b ∷ x) h e =
    at (cases_eq p e) (entry-in m low places (apart-tail p places d) x
    (All-tail (IsIn m) b x h) e) where
      at : (p ≡ e) ⊎ (p ≢ e) → IsIn m (entry_at places x e)
          → IsIn m (entry_at (p ∷ places) (b ∷ x) e)
      at (inl same) r =
          let z = entry-none places x e (λ j l here.
          let k = d (suc j) 0 (omega (arith, l)) (omega arith) (here ∙ sym same) in
          omega (arith, k)) in
          let b_in = All-head (IsIn m) b x h in
          rw (eq-eqb p e same) (omega (arith, ints, z, b_in.0), omega (arith, ints, z, b_in.1))
      at (inr ne) r =
          rw (ne_eqb p e ne) (omega (arith, ints, r.0), omega (arith, ints, r.1))

module _ {X : Type 0} (places : X → List ℕ) (value : X → SetFunction) (size : X → ℤ)
    (start : X → List ℤ) (low : (x : X) → pos 0 ≤ℤ size x)
    (starts_small : (x : X) → All (IsIn (pos 2 *ℤ size x)) (start x)) (n : ℕ) where
  -- the sum of the first bases
  pub first_sum-in : (xs : List X) → All (IsPlaced n) (map places xs) → (e : ℕ)
      → IsIn (pos 2 *ℤ total_of (map size xs))
      (base_sum_at (meanings places value xs) (map start xs) e)
  first_sum-in [] placed e = (omega (arith, ints), omega (arith, ints))
  first_sum-in (x ∷ xs) placed e =
      let one = entry-in (pos 2 *ℤ size x) (let l = low x in omega (arith, ints, l)) (places x)
      (All-head (IsPlaced n) (places x) (map places xs) placed).distinct (start x) (starts_small x)
      e in
      let r = first_sum-in xs (All-tail (IsPlaced n) (places x) (map places xs) placed) e in
      (omega (arith, ints, one.0, r.0), omega (arith, ints, one.1, r.1))
