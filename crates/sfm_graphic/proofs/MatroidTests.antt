-- The tests that tell the bases of a graphic matroid: for each vertex, no edges get more than their
-- ends but that vertex may hold. What these hold, as a sum of capacities. Textbook: Schrijver,
-- Combinatorial Optimization, section 50.
use Rattle.std.proofs.Common.{◌≡◌, ◌≢◌, ◌⊎◌, inl, inr, ℕ, ◌<◌, Bool, true, false, not, ◌&&◌, List, [], length, get_or, set, replicate, nat_eq, ℤ, pos, ◌+ℤ◌, ◌*ℤ◌, ◌≤ℤ◌, refl, sym, ap, ◌∙◌, arith}
use Rattle.std.proofs.lemmas.Bool.{cases_Bool, cases_eq}
use Rattle.std.proofs.lemmas.Int.{ints}
use Rattle.std.proofs.lemmas.List.{length-replicate, get_or-replicate}
use Rattle.sfm_spec.specs.Sets.{Has, size, sum_over}
use Rattle.sfm_spec.specs.Kinds.{Edge, IsForest}
use Rattle.sfm_spec.proofs.Scaled.{times-add}
use Rattle.sfm_spec.proofs.Sums.{sum_over-set}
use Rattle.sfm_rank.proofs.Bases.{AreTests, capped_by_rank, sum_over-below}
use Rattle.sfm_matroid.specs.Counting.{eqb_apart, count-same, count-without, size-count}
use Rattle.sfm_matroid.specs.Counts.{count_below}
use Rattle.sfm_matroid.proofs.MatroidTests.{sum-level}
use Rattle.sfm_graphic.specs.Graphs.{EndsBelow, graphic_rank}
use Rattle.sfm_graphic.specs.Forests.{forest-matroid, graphic-ranks}
use Rattle.sfm_graphic.specs.Numbered.{numbered, vertex_count}
use Rattle.sfm_graphic.proofs.Numbers.{length-numbered, numbered_below, rank-number}
use Rattle.sfm_graphic.specs.Cuts.{IsWithinEnds}
use Rattle.sfm_graphic.proofs.CutForms.{ends_from_rank, rank_from_ends}

-- one test for each vertex, by the numbers of the ends
pub numbered_tests : (edges : List Edge) (q w : ℤ) (low : pos 0 ≤ℤ (q *ℤ w))
    → AreTests (length edges) (vertex_count edges) q w low (IsForest edges) (graphic_rank edges)
    (forest-matroid edges) (graphic-ranks edges)
    (λ a x. IsWithinEnds (numbered edges) (vertex_count edges) (q *ℤ w) x a)
numbered_tests edges q w low = record {
  needed = λ x sized counts within. record {
    capped = capped_by_rank (length edges) (IsForest edges) (graphic_rank edges)
        (forest-matroid edges) (graphic-ranks edges) (q *ℤ w) low x sized within;
    met = λ a lt. ends_from_rank (numbered edges) m (below []) (q *ℤ w) low x
        (λ s ks. let h = within s (ks ∙ length-numbered edges s) in let r = ap (λ n.
        (q *ℤ w) *ℤ pos n) (rank-number edges s) in omega (arith, ints, h, r)) a;
  };
  enough = λ x sized counts passes s ks.
      let h = rank_from_ends (numbered edges) m (below s) (q *ℤ w) low x passes.met s
      (ks ∙ sym (length-numbered edges s)) in
      let r = ap (λ n. (q *ℤ w) *ℤ pos n) (rank-number edges s) in
      omega (arith, ints, h, r);
  smaller = λ a x y lt kx ky counts le met s ks. let h = met s ks in let r = sum_over-below s x y
      (kx ∙ sym ky) (λ e h. le e (omega (arith, h, kx))) in omega (arith, ints, h, r);
} where
  m : ℕ
  m = vertex_count edges

  below : (s : List Bool) → EndsBelow (numbered edges) (vertex_count edges)
  below s = numbered_below edges s

-- ---- sums of capacities

-- c at each place but a
pub sum-but : (z : List Bool) (c : ℤ) (a : ℕ) → a < length z
    → sum_over z (set (replicate (length z) c) a (pos 0))
    ≡ (c *ℤ pos (count_below (length z) (λ v. get_or z v false && not (nat_eq v a))))
sum-but z c a lt = at (cases_Bool (get_or z a false)) where
  m : ℕ
  m = length z

  turned : (b d : Bool) → (b && not d) ≡ (not d && b)
  turned true true = refl
  turned true false = refl
  turned false true = refl
  turned false false = refl

  order : count_below (length z) (λ v. get_or z v false && not (nat_eq v a)) ≡ count_below
      (length z) (λ v. not (nat_eq v a) && get_or z v false)
  order = count-same (length z) (λ v. get_or z v false && not (nat_eq v a))
      (λ v. not (nat_eq v a) && get_or z v false) (λ v lv. turned (get_or z v false) (nat_eq v a))

  at : (Has z a) ⊎ (get_or z a false ≡ false)
      → sum_over z (set (replicate (length z) c) a (pos 0))
      ≡ (c *ℤ pos (count_below (length z) (λ v. get_or z v false && not (nat_eq v a))))
  at (inl has) =
      let l = length-replicate (length z) c in
      let first = rw (has, get_or-replicate (length z) a c (pos 0) lt) at
      (sum_over-set z (replicate (length z) c) a (pos 0) (sym l) (omega (arith, l, lt))) in
      let all = sum-level z c in
      let n = size-count z in
      let w = count-without (length z) (λ v. get_or z v false) a lt has in
      let o = order in
      let one : pos (size z) ≡ (pos
      (count_below (length z) (λ v. get_or z v false && not (nat_eq v a))) +ℤ pos
      1) = omega (arith, ints, n, w, o) in
      let p = ap (λ d. c *ℤ d) one ∙ times-add c
      (pos (count_below (length z) (λ v. get_or z v false && not (nat_eq v a)))) (pos 1) in
      omega (arith, ints, first, all, p)
  at (inr out) =
      let l = length-replicate (length z) c in
      let first = rw out at (sum_over-set z (replicate (length z) c) a (pos 0) (sym l)
      (omega (arith, l, lt))) in
      let all = sum-level z c in
      let n = size-count z in
      let keep = count-same (length z) (λ v. get_or z v false && not (nat_eq v a))
      (λ v. get_or z v false) (λ v lv. kept v (cases_eq v a)) in
      let same : pos (size z) ≡ pos
      (count_below (length z) (λ v. get_or z v false && not (nat_eq v a))) =
      omega (arith, ints, n, keep) in
      let p = ap (λ d. c *ℤ d) same in
      omega (arith, ints, first, all, p) where
        kept : (v : ℕ) → (v ≡ a) ⊎ (v ≢ a)
            → (get_or z v false && not (nat_eq v a)) ≡ get_or z v false
        kept v (inl same) = rw (same, out) refl
        kept v (inr ne) = rw (eqb_apart v a ne) (plain (get_or z v false)) where
          plain : (b : Bool) → (b && true) ≡ b
          plain true = refl
          plain false = refl
