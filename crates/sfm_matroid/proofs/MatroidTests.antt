-- The test that tells the bases of a transversal matroid: no members get more than their slots may
-- hold. What slots hold, as a sum of capacities. Textbook: Schrijver, Combinatorial Optimization,
-- section 22.
use Rattle.std.proofs.Common.{◌≡◌, ℕ, ◌+◌, Bool, true, false, List, [], ◌∷◌, length, replicate, ℤ, pos, ◌+ℤ◌, ◌*ℤ◌, ◌≤ℤ◌, sym, ap, ◌∙◌, arith}
use Rattle.std.proofs.lemmas.Int.{ints}
use Rattle.std.proofs.Math.IntN.{*ℤ-zero}
use Rattle.sfm_spec.specs.Sets.{size, sum_over}
use Rattle.sfm_spec.specs.Kinds.{IsMatchable}
use Rattle.sfm_spec.proofs.Scaled.{times-add}
use Rattle.sfm_spec.proofs.Where.{size-cons}
use Rattle.sfm_rank.proofs.Bases.{AreTests, capped_by_rank, sum_over-below}
use Rattle.sfm_matroid.specs.Counts.{unit_of}
use Rattle.sfm_matroid.specs.Matchings.{matching-matroid}
use Rattle.sfm_matroid.specs.Ore.{AreSlotsBelow}
use Rattle.sfm_matroid.specs.Slots.{IsWithinSlots, transversal_rank}
use Rattle.sfm_matroid.proofs.SlotForms.{slots_from_rank, rank_from_slots}
use Rattle.sfm_matroid.specs.Transversals.{transversal-ranks}

-- one test
pub transversal_tests : (entries : List (List ℕ)) (m : ℕ) (below : AreSlotsBelow entries m)
    (q w : ℤ) (low : pos 0 ≤ℤ (q *ℤ w))
    → AreTests (length entries) 1 q w low (IsMatchable entries) (transversal_rank entries)
    (matching-matroid (length entries) entries) (transversal-ranks entries)
    (λ a x. IsWithinSlots entries m (q *ℤ w) x)
transversal_tests entries m below q w low = record {
  needed = λ x sized counts within. record {
    capped = capped_by_rank (length entries) (IsMatchable entries) (transversal_rank entries)
        (matching-matroid (length entries) entries) (transversal-ranks entries) (q *ℤ w) low x sized
        within;
    met = λ a lt. slots_from_rank (length entries) m entries (transversal_rank entries)
        (transversal-ranks entries) below (q *ℤ w) low x within;
  };
  enough = λ x sized counts passes. rank_from_slots (length entries) m entries
      (transversal_rank entries) (transversal-ranks entries) (q *ℤ w) low x
      (λ e lt. passes.capped e (omega (arith, lt, sized))) (passes.met 0 (omega arith));
  smaller = λ a x y lt kx ky counts le met s ks. let h = met s ks in let r = sum_over-below s x y
      (kx ∙ sym ky) (λ e h. le e (omega (arith, h, kx))) in omega (arith, ints, h, r);
}

-- ---- sums of capacities

-- c at each place
pub sum-level : (z : List Bool) (c : ℤ) → sum_over z (replicate (length z) c) ≡ (c *ℤ pos (size z))
sum-level [] c = sym (*ℤ-zero c)
sum-level (b ∷ z) c = at b (sum-level z c) (size-cons b z) where
  at : (b : Bool) → sum_over z (replicate (length z) c) ≡ (c *ℤ pos (size z))
      → size (b ∷ z) ≡ unit_of b + size z
      → sum_over (b ∷ z) (replicate (length (b ∷ z)) c) ≡ (c *ℤ pos (size (b ∷ z)))
  at true r e =
      let one : pos (size (true ∷ z)) ≡ (pos (size z) +ℤ pos 1) = omega (arith, ints, e) in
      let p = ap (λ a. c *ℤ a) one ∙ times-add c (pos (size z)) (pos 1) in
      omega (arith, ints, r, p)
  at false r e =
      let one : pos (size (false ∷ z)) ≡ pos (size z) = omega (arith, ints, e) in
      let p = ap (λ a. c *ℤ a) one in
      omega (arith, ints, r, p)
