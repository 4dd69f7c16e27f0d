-- A function of all sets is submodular where two places never gain more together than each alone.
-- Textbook: Schrijver, Combinatorial Optimization, section 44 (the local form of submodularity).
use Rattle.std.proofs.Common.{◌≡◌, ℕ, zero, suc, ◌<◌, Bool, true, false, List, [], ◌∷◌, length, get_or, set, ℤ, pos, ◌+ℤ◌, ◌-ℤ◌, ◌≤ℤ◌, Some, refl, ap, arith}
use Rattle.std.proofs.lemmas.Int.{ints}
use Rattle.sfm_spec.specs.Sets.{empty_set, union, intersection}
use Rattle.sfm_spec.specs.Terms.{SetFunction, IsSubmodular}

-- the function that allows every set
abbrev pub on_all : (List Bool → ℤ) → SetFunction
on_all g s = Some (g s)

-- over sets of k places, two places outside a set gain together at most what they gain alone
pub record IsLocal (k : ℕ) (g : List Bool → ℤ) : Type 0 where
  pub pairs : (s : List Bool) (a b : ℕ) → length s ≡ k → a < b → b < k → get_or s a false ≡ false
      → get_or s b false ≡ false
      → (g (set (set s a true) b true) +ℤ g s) ≤ℤ (g (set s a true) +ℤ g (set s b true))

-- what falls with each place added falls from the intersection to both sets
falls : (k : ℕ) (d : List Bool → ℤ)
    → ((s : List Bool) (b : ℕ) → length s ≡ k → b < k → get_or s b false ≡ false
    → d (set s b true) ≤ℤ d s)
    → (s t : List Bool) → length s ≡ k → length t ≡ k → (d s ≤ℤ d (intersection s t))
    × (d t ≤ℤ d (intersection s t))
falls zero d h [] [] ks kt = (omega (arith, ints), omega (arith, ints))
falls zero d h [] (b ∷ t) ks kt = absurd (omega arith)
falls zero d h (a ∷ s) t ks kt = absurd (omega arith)
falls (suc k) d h [] t ks kt = absurd (omega arith)
falls (suc k) d h (a ∷ s) [] ks kt = absurd (omega arith)
falls (suc k) d h (a ∷ s) (b ∷ t) ks kt =
    at (λ c. falls k (λ r. d (c ∷ r))
    (λ r e kr lt out. h (c ∷ r) (suc e) (omega arith) (omega arith) out) s t (omega arith)
    (omega arith)) a b where
      first : (r : List Bool) → length r ≡ k → d (true ∷ r) ≤ℤ d (false ∷ r)
      first r kr = h (false ∷ r) 0 (omega arith) (omega arith) refl

      at : ((c : Bool) → (d (c ∷ s) ≤ℤ d (c ∷ intersection s t))
          × (d (c ∷ t) ≤ℤ d (c ∷ intersection s t))) → (a b : Bool)
          → (d (a ∷ s) ≤ℤ d (intersection (a ∷ s) (b ∷ t)))
          × (d (b ∷ t) ≤ℤ d (intersection (a ∷ s) (b ∷ t)))
      at below true true = below true
      at below false false = below false
      at below true false = let r = below false in let f = first s
          (omega arith) in (omega (arith, ints, r.0, f), r.1)
      at below false true = let r = below false in let f = first t
          (omega arith) in (r.0, omega (arith, ints, r.1, f))

shifted : (k : ℕ) (g : List Bool → ℤ) (c : Bool) → IsLocal (suc k) g → IsLocal k (λ r. g (c ∷ r))
shifted k g c h = record {
  pairs = λ s a b ks lt in_range out out'. h.pairs (c ∷ s) (suc a) (suc b)
      (omega arith) (omega arith) (omega arith) out out';
}

pub submodular_from_local : (k : ℕ) (g : List Bool → ℤ) → IsLocal k g → (s t : List Bool)
    → length s ≡ k → length t ≡ k
    → (g (union s t) +ℤ g (intersection s t)) ≤ℤ (g s +ℤ g t)
submodular_from_local zero g h [] [] ks kt = omega (arith, ints)
submodular_from_local zero g h [] (b ∷ t) ks kt = absurd (omega arith)
submodular_from_local zero g h (a ∷ s) t ks kt = absurd (omega arith)
submodular_from_local (suc k) g h [] t ks kt = absurd (omega arith)
submodular_from_local (suc k) g h (a ∷ s) [] ks kt = absurd (omega arith)
submodular_from_local (suc k) g h (a ∷ s) (b ∷ t) ks kt =
    at (λ c. submodular_from_local k (λ r. g (c ∷ r)) (shifted k g c h) s t (omega arith)
    (omega arith)) a b where
      gains : (d : List Bool → ℤ) → ((r : List Bool) → d r ≡ (g (true ∷ r) -ℤ g (false ∷ r)))
          → (d s ≤ℤ d (intersection s t)) × (d t ≤ℤ d (intersection s t))
      gains d is = falls k d (λ r e kr lt out.
          let two = h.pairs (false ∷ r) 0 (suc e) (omega arith) (omega arith) (omega arith) refl
          out in
          let i = is r in
          let j = is (set r e true) in
          omega (arith, ints, two, i, j)) s t (omega arith) (omega arith)

      at : ((c : Bool) → (g (c ∷ union s t) +ℤ g (c ∷ intersection s t))
          ≤ℤ (g (c ∷ s) +ℤ g (c ∷ t)))
          → (a b : Bool)
          → (g (union (a ∷ s) (b ∷ t)) +ℤ g (intersection (a ∷ s) (b ∷ t)))
          ≤ℤ (g (a ∷ s) +ℤ g (b ∷ t))
      at below true true = below true
      at below false false = below false
      at below true false =
          let r = below true in
          let d = gains (λ r. g (true ∷ r) -ℤ g (false ∷ r)) (λ r. refl) in
          omega (arith, ints, r, d.1)
      at below false true =
          let r = below true in
          let d = gains (λ r. g (true ∷ r) -ℤ g (false ∷ r)) (λ r. refl) in
          omega (arith, ints, r, d.0)

pub local_law : (k : ℕ) (g : List Bool → ℤ) → g (empty_set k) ≡ pos 0 → IsLocal k g
    → IsSubmodular k (on_all g)
local_law k g none h = record {
  at_empty = ap Some none;
  submodular = λ s t a b c d ks kt ea eb ec ed.
      let less = submodular_from_local k g h s t ks kt in
      let fa : g s ≡ a = cc in
      let fb : g t ≡ b = cc in
      let fc : g (union s t) ≡ c = cc in
      let fd : g (intersection s t) ≡ d = cc in
      rw (← fa, ← fb, ← fc, ← fd) less;
}
