-- The rank by slots: what gives no elements more than their slots may hold gives none more than
-- their rank allows, and back. Textbook: Schrijver, Combinatorial Optimization, section 22 (Hall's
-- theorem with a defect, after Ore).
use Rattle.std.proofs.Common.{◌≡◌, ℕ, suc, ◌+◌, ◌<◌, ◌≤◌, Bool, true, false, List, [], ◌∷◌, length, get_or, ℤ, pos, ◌+ℤ◌, ◌*ℤ◌, ◌≤ℤ◌, refl, sym, ap, ◌∙◌, arith}
use Rattle.std.proofs.lemmas.Bool.{false≢true}
use Rattle.std.proofs.lemmas.Int.{ints}
use Rattle.std.proofs.Math.IntN.{*ℤ-zero}
use Rattle.sfm_spec.specs.Sets.{IsWithin, size, sum_over}
use Rattle.sfm_spec.specs.Kinds.{IsMatchable}
use Rattle.sfm_spec.proofs.Scaled.{times-mono, times-add}
use Rattle.sfm_spec.proofs.Sizes.{within_tail}
use Rattle.sfm_spec.proofs.Where.{size-cons}
use Rattle.sfm_rank.specs.Matroids.{AreRanks}
use Rattle.sfm_matroid.specs.Counts.{unit_of}
use Rattle.sfm_matroid.specs.Slots.{slots_count}
use Rattle.sfm_matroid.specs.Ore.{AreSlotsBelow, greatest, matched_slots, minus}

sum-minus : (s r : List Bool) (x : List ℤ) → length s ≡ length r → IsWithin r s
    → sum_over s x ≡ (sum_over (minus s r) x +ℤ sum_over r x)
sum-minus [] [] x same within = refl
sum-minus [] (b ∷ r) x same within = absurd (omega (arith, same))
sum-minus (a ∷ s) [] x same within = absurd (omega (arith, same))
sum-minus (a ∷ s) (b ∷ r) [] same within = refl
sum-minus (a ∷ s) (b ∷ r) (y ∷ x) same within =
    at a b (within 0) (sum-minus s r x (omega arith) (within_tail b a r s within)) where
      at : (a b : Bool) → (b ≡ true → a ≡ true)
          → sum_over s x ≡ (sum_over (minus s r) x +ℤ sum_over r x)
          → sum_over (a ∷ s) (y ∷ x) ≡ (sum_over (minus (a ∷ s) (b ∷ r)) (y ∷ x) +ℤ sum_over (b ∷ r)
          (y ∷ x))
      at true true w h = omega (arith, ints, h)
      at true false w h = omega (arith, ints, h)
      at false true w h = absurd (false≢true (w refl))
      at false false w h = omega (arith, ints, h)

-- ---- the rank by slots

-- a part of s of which the others and the slots together are no more than the rank of s
pub record IsTightPart (entries : List (List ℕ)) (m : ℕ) (rank : List Bool → ℕ)
    (s r : List Bool) : Type 0 where
  pub places : length r ≡ length s
  pub inside : IsWithin r s
  pub few : size (minus s r) + slots_count entries m r ≤ rank s

module _ (k m : ℕ) (entries : List (List ℕ)) (rank : List Bool → ℕ)
    (ranks : AreRanks k (IsMatchable entries) rank) where
  pub tight_part : (s : List Bool) → length s ≡ k → (r : List Bool) × IsTightPart entries m rank s r
  tight_part s ks =
      let (b, h) = greatest k m entries s ks in
      let g = (ranks s ks).greatest b h.places h.inside h.matchable in
      let few = h.few in (
        h.part,
        record {
          places = h.part_places;
          inside = h.part_inside;
          few = omega (arith, few, g);
        },
      )

  pub rank_slots : AreSlotsBelow entries m → (s : List Bool) → length s ≡ k
      → rank s ≤ slots_count entries m s
  rank_slots below s ks =
      let (i, ki, wi, mi, si) = (ranks s ks).reached in
      let c = matched_slots k m entries below s i wi mi in
      omega (arith, c, si)

  -- ---- the cut form

  sum-capped : (c : ℤ) → pos 0 ≤ℤ c → (s : List Bool) (x : List ℤ)
      → ((e : ℕ) → e < length x → get_or x e (pos 0) ≤ℤ c) → sum_over s x ≤ℤ (c *ℤ pos (size s))
  sum-capped c low [] x capped = let z = *ℤ-zero c in omega (arith, ints, z)
  sum-capped c low (b ∷ s) [] capped =
      let z = *ℤ-zero c in let up = times-mono c (pos 0) (pos (size (b ∷ s))) low
      (omega (arith, ints)) in omega (arith, ints, z, up)
  sum-capped c low (b ∷ s) (y ∷ x) capped =
      let r = sum-capped c low s x (λ e lt. capped (suc e) (omega arith)) in
      let e = size-cons b s in
      at b r (capped 0 (omega arith)) e where
        at : (b : Bool) → sum_over s x ≤ℤ (c *ℤ pos (size s)) → y ≤ℤ c
            → size (b ∷ s) ≡ unit_of b + size s
            → sum_over (b ∷ s) (y ∷ x) ≤ℤ (c *ℤ pos (size (b ∷ s)))
        at true r h e =
            let one : pos (size (true ∷ s)) ≡ (pos (size s) +ℤ pos 1) = omega (arith, ints, e) in
            let p = ap (λ z. c *ℤ z) one ∙ times-add c (pos (size s)) (pos 1) in
            omega (arith, ints, r, h, p)
        at false r h e =
            let one : pos (size (false ∷ s)) ≡ pos (size s) = omega (arith, ints, e) in
            let p = ap (λ z. c *ℤ z) one in
            omega (arith, ints, r, p)

  -- no entry is above c, and no set gets more than c for each of its slots: then none gets more
  -- than c times its rank
  pub rank_from_slots : (c : ℤ) → pos 0 ≤ℤ c → (x : List ℤ)
      → ((e : ℕ) → e < length x → get_or x e (pos 0) ≤ℤ c)
      → ((s : List Bool) → length s ≡ k → sum_over s x ≤ℤ (c *ℤ pos (slots_count entries m s)))
      → (s : List Bool) → length s ≡ k → sum_over s x ≤ℤ (c *ℤ pos (rank s))
  rank_from_slots c low x capped within s ks =
      let (r, h) = tight_part s ks in
      let sum = sum-minus s r x (sym h.places) h.inside in
      let a = sum-capped c low (minus s r) x capped in
      let b = within r (h.places ∙ ks) in
      let few = h.few in
      let add = times-add c (pos (size (minus s r))) (pos (slots_count entries m r)) in
      let up = times-mono c (pos (size (minus s r)) +ℤ pos (slots_count entries m r)) (pos (rank s))
      low (omega (arith, ints, few)) in
      omega (arith, ints, sum, a, b, add, up)

  pub slots_from_rank : AreSlotsBelow entries m → (c : ℤ) → pos 0 ≤ℤ c → (x : List ℤ)
      → ((s : List Bool) → length s ≡ k → sum_over s x ≤ℤ (c *ℤ pos (rank s))) → (s : List Bool)
      → length s ≡ k → sum_over s x ≤ℤ (c *ℤ pos (slots_count entries m s))
  slots_from_rank below c low x within s ks =
      let h = within s ks in
      let r = rank_slots below s ks in
      let up = times-mono c (pos (rank s)) (pos (slots_count entries m s)) low
      (omega (arith, ints, r)) in
      omega (arith, ints, h, up)
