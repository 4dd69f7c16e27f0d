-- The condition that a part with its first place has its second too.
use Rattle.std.proofs.Common.{◌≡◌, ℕ, zero, suc, ◌<◌, Bool, true, false, not, ◌&&◌, List, [], ◌∷◌, length, get_or, ℤ, pos, neg_ℤ, ◌+ℤ◌, ◌*ℤ◌, ◌≤ℤ◌, Some, None, IsSome, if◌then◌else◌, refl, sym, ap, ◌∙◌, arith, ⊎_elim, map}
use Rattle.std.specs.List.{All}
use Rattle.std.proofs.Math.IntN.{*ℤ-zero}
use Rattle.std.proofs.lemmas.Int.{ints}
use Rattle.sfm_spec.specs.Sets.{Has, union, intersection, sum_over}
use Rattle.sfm_spec.specs.Terms.{times, IsBase, IsFamily, IsSubmodular}
use Rattle.sfm_spec.specs.Kinds.{need_value}
use Rattle.sfm_spec.proofs.Sets.{in_union, union_left, union_right, in_both, in_first, in_second}
use Rattle.sfm_law.proofs.Multiples.{zeros-times}

allowed_when : (s : List Bool) → (Has s 0 → Has s 1) → IsSome (need_value s)
allowed_when s h = at (get_or s 0 false) (get_or s 1 false) h where
  at : (a b : Bool) → (a ≡ true → b ≡ true) → IsSome (if a && not b then None else Some (pos 0))
  at false b h = refl
  at true true h = refl
  at true false h = let e = h refl in cc

pub when_allowed : (s : List Bool) → IsSome (need_value s) → Has s 0 → Has s 1
when_allowed s h = at (get_or s 0 false) (get_or s 1 false) h where
  at : (a b : Bool) → IsSome (if a && not b then None else Some (pos 0)) → a ≡ true → b ≡ true
  at false b h e = cc
  at true true h e = refl
  at true false h e = cc

always_zero : (s : List Bool) (c : ℤ) → need_value s ≡ Some c → c ≡ pos 0
always_zero s c h = at (get_or s 0 false) (get_or s 1 false) h where
  at : (a b : Bool) → (if a && not b then None else Some (pos 0)) ≡ Some c → c ≡ pos 0
  at false b h = cc
  at true true h = cc
  at true false h = cc

pub need-family : (k : ℕ) → k ≡ 2 → IsFamily k need_value
need-family k two = record {
  empty = rw two refl;
  whole = rw two refl;
  unions = λ s t hs ht ls lt. let same : length s ≡ length t = hs
      ∙ sym ht in allowed_when (union s t)
      (λ h. ⊎_elim (λ g. union_left s t 1 same (when_allowed s ls g))
      (λ g. union_right s t 1 same (when_allowed t lt g)) (in_union s t 0 same h));
  intersections = λ s t hs ht ls lt. let same : length s ≡ length t = hs
      ∙ sym ht in allowed_when (intersection s t)
      (λ h. in_both s t 1 same (when_allowed s ls (in_first s t 0 same h))
      (when_allowed t lt (in_second s t 0 same h)));
}

pub need-submodular : (k : ℕ) → k ≡ 2 → IsSubmodular k need_value
need-submodular k two = record {
  at_empty = rw two refl;
  submodular = λ s t a b c d hs ht ea eb ec ed.
      let za = always_zero s a ea in
      let zb = always_zero t b eb in
      let zc = always_zero (union s t) c ec in
      let zd = always_zero (intersection s t) d ed in
      omega (arith, ints, za, zb, zc, zd);
}

pub need-bounded : (s : List Bool) (a : ℤ) → need_value s ≡ Some a → (neg_ℤ (pos 0) ≤ℤ a)
    × (a ≤ℤ pos 0)
need-bounded s a e = let z = always_zero s a e in (omega (arith, ints, z), omega (arith, ints, z))

-- t at the first and -t at the second, t not negative
pub need_base : (q : ℤ) (x : List ℤ) → length x ≡ 2 → pos 0 ≤ℤ get_or x 0 (pos 0)
    → (get_or x 0 (pos 0) +ℤ get_or x 1 (pos 0)) ≡ pos 0 → IsBase (times q need_value) x
need_base q [] two low sum = absurd (omega arith)
need_base q (a ∷ []) two low sum = absurd (omega arith)
need_base q (a ∷ b ∷ c ∷ x) two low sum = absurd (omega arith)
need_base q (a ∷ b ∷ []) two low sum =
    record { within = within; total = ap Some (*ℤ-zero q ∙ sym whole) } where
      whole : sum_over (true ∷ true ∷ []) (a ∷ b ∷ []) ≡ pos 0
      whole = omega (arith, ints)

      within : (s : List Bool) (c : ℤ) → length s ≡ length (a ∷ b ∷ [])
          → times q need_value s ≡ Some c
          → sum_over s (a ∷ b ∷ []) ≤ℤ c
      within [] c h e = absurd (omega arith)
      within (u ∷ []) c h e = absurd (omega arith)
      within (u ∷ v ∷ w ∷ s) c h e = absurd (omega arith)
      within (true ∷ false ∷ []) c h e = cc
      within (true ∷ true ∷ []) c h e =
          let f : (q *ℤ pos 0) ≡ c = cc in let g = *ℤ-zero q in omega (arith, ints, f, g)
      within (false ∷ true ∷ []) c h e =
          let f : (q *ℤ pos 0) ≡ c = cc in let g = *ℤ-zero q in omega (arith, ints, f, g)
      within (false ∷ false ∷ []) c h e =
          let f : (q *ℤ pos 0) ≡ c = cc in let g = *ℤ-zero q in omega (arith, ints, f, g)

pub need_base_back : (q : ℤ) (x : List ℤ) → length x ≡ 2 → IsBase (times q need_value) x
    → (pos 0 ≤ℤ get_or x 0 (pos 0)) × ((get_or x 0 (pos 0) +ℤ get_or x 1 (pos 0)) ≡ pos 0)
need_base_back q [] two base = absurd (omega arith)
need_base_back q (a ∷ []) two base = absurd (omega arith)
need_base_back q (a ∷ b ∷ c ∷ x) two base = absurd (omega arith)
need_base_back q (a ∷ b ∷ []) two base =
    let second = base.within (false ∷ true ∷ []) (q *ℤ pos 0) refl refl in
    let e = base.total in
    let f : (q *ℤ pos 0) ≡ sum_over (true ∷ true ∷ []) (a ∷ b ∷ []) = cc in
    let g = *ℤ-zero q in
    (omega (arith, ints, second, f, g), omega (arith, ints, f, g))

pub need-starts : (k : ℕ) (q : ℤ) → k ≡ 2 → (2 ≡ k)
    × IsBase (times q need_value) (pos 0 ∷ pos 0 ∷ [])
need-starts k q two = (
  sym two,
  need_base q (pos 0 ∷ pos 0 ∷ []) refl (omega (arith, ints)) (omega (arith, ints)),
)

pub need-starts_small : (q : ℤ)
    → All (λ a. (neg_ℤ ((pos 2 *ℤ q) *ℤ pos 0) ≤ℤ a) × (a ≤ℤ ((pos 2 *ℤ q) *ℤ pos 0)))
    (pos 0 ∷ pos 0 ∷ [])
need-starts_small q = at where
  zero_is : ((pos 2 *ℤ q) *ℤ pos 0) ≡ pos 0
  zero_is = *ℤ-zero (pos 2 *ℤ q)

  at : (k : ℕ) (d : ℤ) → k < 2 → (neg_ℤ ((pos 2 *ℤ q) *ℤ pos 0) ≤ℤ get_or (pos 0 ∷ pos 0 ∷ []) k d)
      × (get_or (pos 0 ∷ pos 0 ∷ []) k d ≤ℤ ((pos 2 *ℤ q) *ℤ pos 0))
  at zero d h = rw zero_is (omega (arith, ints), omega (arith, ints))
  at (suc zero) d h = rw zero_is (omega (arith, ints), omega (arith, ints))
  at (suc (suc k)) d h = absurd (omega arith)

pub need-starts_times : (q : ℤ) → (pos 0 ∷ pos 0 ∷ []) ≡ map (λ a. q *ℤ a) (pos 0 ∷ pos 0 ∷ [])
need-starts_times q = zeros-times q 2
