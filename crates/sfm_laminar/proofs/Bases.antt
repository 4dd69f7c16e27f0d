-- The bases of the weighted rank of groups of which no two cross: entries from 0 to q·w, no group
-- above its bound, and the whole value in all. Textbook: Schrijver, Combinatorial Optimization,
-- sections 39 and 44.
use Rattle.std.proofs.Common.{◌≡◌, ◌↔◌, ℕ, ◌<◌, Bool, false, IsTrue, List, length, get_or, ℤ, pos, ◌*ℤ◌, ◌≤ℤ◌, ap, sym, ◌∙◌, arith}
use Rattle.std.specs.Int.{int_min}
use Rattle.std.specs.List.{All}
use Rattle.std.proofs.lemmas.Bool.{both_ways, false≢true}
use Rattle.std.proofs.lemmas.Int.{ints, clamps}
use Rattle.std.proofs.lemmas.List.{get_or_default}
use Rattle.std.proofs.lemmas.List.Elements.{All-get_or}
use Rattle.sfm_spec.specs.Bounds.{total_of}
use Rattle.sfm_spec.specs.Sets.{whole_set, sum_over}
use Rattle.sfm_spec.specs.Terms.{times, IsBase}
use Rattle.sfm_spec.specs.Kinds.{Group, IsWithinCaps}
use Rattle.sfm_spec.proofs.Scaled.{times-mono, times-assoc}
use Rattle.sfm_law.proofs.Monotone.{AreCounts}
use Rattle.sfm_law.proofs.Totals.{total_of-whole}
use Rattle.sfm_rank.proofs.Ranks.{rank-size}
use Rattle.sfm_rank.proofs.Bases.{AreTests, base_counts, base_passes, base_total, capped_by_rank, passes_base, sum_over-below}
use Rattle.sfm_laminar.specs.Masks.{mask, length-mask, count-mask, sum_listed}
use Rattle.sfm_laminar.proofs.Masked.{sum-mask, size-mask}
use Rattle.sfm_laminar.specs.Groups.{AreGroups}
use Rattle.sfm_laminar.specs.Crossing.{no_group, group_at}
use Rattle.sfm_laminar.specs.Grown.{grown}
use Rattle.sfm_laminar.specs.Ranks.{rank, held, blocks, caps-matroid, caps-ranks, sum-ones, sum-ones_within, whole_grown}
use Rattle.sfm_laminar.specs.LaminarLaws.{laminar_value, laminar_size}
use Rattle.sfm_laminar.specs.Rooms.{bound_of, slack_of}

-- where a test fails that each base passes, there is none
pub refused : {Test Base : Type 0} (b : Bool) → IsTrue b ↔ Test → b ≡ false → (Base → Test)
    → IsTrue false ↔ Base
refused b test fails passes = (
  (λ t. absurd (false≢true t)),
  (λ base. absurd (both_ways b fails (test.1 (passes base)))),
)

-- what a base is
pub record IsLaminarBase (k : ℕ) (q w : ℤ) (groups : List Group) (x : List ℤ) : Type 0 where
  pub counts : AreCounts x
  pub capped : (e : ℕ) → e < length x → get_or x e (pos 0) ≤ℤ (q *ℤ w)
  pub bounded : (i : ℕ) → i < length groups → sum_listed (group_at groups i).members x ≤ℤ bound_of q
      w (group_at groups i)
  pub sum : sum_over (whole_set k) x ≡ (q *ℤ laminar_size k w groups)

-- the test of a group
abbrev pub IsGroupMet : ℤ → ℤ → List Group → ℕ → List ℤ → Type 0
IsGroupMet q w groups i x = sum_listed (group_at groups i).members x ≤ℤ bound_of q w
    (group_at groups i)

module _ (k : ℕ) (groups : List Group) (ok : AreGroups k groups) where
  pub sum-group : (i : ℕ) (x : List ℤ) → i < length groups → length x ≡ k
      → sum_over (mask k (group_at groups i).members) x ≡ sum_listed (group_at groups i).members x
  sum-group i x lt kx = sum-mask k (group_at groups i).members x kx
      (ok.each i no_group lt).ascending (ok.below i no_group lt)

  -- a group has no larger part than its cap
  rank-cap : (i : ℕ) → i < length groups
      → pos (rank k groups (mask k (group_at groups i).members)) ≤ℤ (group_at groups i).cap
  rank-cap i lt =
      let g = group_at groups i in
      let km = length-mask k g.members in
      let h = whole_grown k groups ok (mask k g.members) in
      let t = grown k groups (mask k g.members) k in
      let a = sum-ones (mask k g.members) t (km ∙ sym h.places) in
      let b = sum-ones_within (mask k g.members) t (km ∙ sym h.places) h.within in
      let c = count-mask k g.members t h.places (ok.each i no_group lt).ascending
      (ok.below i no_group lt) in
      let d = h.independent i no_group lt in
      omega (arith, ints, a, b, c, d)

module _ (k : ℕ) (q w : ℤ) (groups : List Group) (hq : pos 1 ≤ℤ q) (hw : pos 0 ≤ℤ w)
    (ok : AreGroups k groups) where
  pub low : pos 0 ≤ℤ (q *ℤ w)
  low = let h = times-mono q (pos 0) w (omega (arith, ints)) hw in omega (arith, ints, h)

  -- one test for each group
  pub laminar_tests : AreTests k (length groups) q w low (IsWithinCaps groups) (rank k groups)
      (caps-matroid k groups ok) (caps-ranks k groups ok) (IsGroupMet q w groups)
  laminar_tests = record {
    needed = λ x kx counts within. record {
      capped = capped_by_rank k (IsWithinCaps groups) (rank k groups) (caps-matroid k groups ok)
          (caps-ranks k groups ok) (q *ℤ w) low x kx within;
      met = λ i lt.
          let g = group_at groups i in
          let h = within (mask k g.members) (length-mask k g.members) in
          let c = rank-cap k groups ok i lt in
          let r = rank-size k (IsWithinCaps groups) (rank k groups) (caps-matroid k groups ok)
          (caps-ranks k groups ok) (mask k g.members) (length-mask k g.members) in
          let z = size-mask k g.members (ok.each i no_group lt).ascending
          (ok.below i no_group lt) in
          let up = times-mono (q *ℤ w) (pos (rank k groups (mask k g.members)))
          (int_min g.cap (pos (length g.members))) low (omega (arith, ints, clamps, c, r, z)) in
          let s = sum-group k groups ok i x lt kx in
          omega (arith, ints, h, up, s);
    };
    enough = λ x kx counts passes s ks. held (q *ℤ w) k groups s (grown k groups s k) x low ok ks
        (whole_grown k groups ok s).places kx
        (λ p lt. (counts p lt, passes.capped p (omega (arith, lt, kx))))
        (λ i lt.
        let g = group_at groups i in
        let b = passes.met i lt in
        let s = sum-group k groups ok i x lt kx in
        let up = times-mono (q *ℤ w) (int_min g.cap (pos (length g.members))) g.cap low
        (omega (arith, ints, clamps)) in
        omega (arith, ints, b, s, up))
        (blocks k groups ok s ks);
    smaller = λ i x y lt kx ky counts le met.
        let sx = sum-group k groups ok i x lt kx in
        let sy = sum-group k groups ok i y lt ky in
        let r = sum_over-below (mask k (group_at groups i).members) x y (kx ∙ sym ky)
        (λ e h. le e (omega (arith, h, kx))) in
        omega (arith, ints, met, sx, sy, r);
  }

  pub laminar_base : (x : List ℤ) → length x ≡ k → IsLaminarBase k q w groups x
      → IsBase (times q (laminar_value k w groups)) x
  laminar_base x kx h =
      passes_base k (length groups) q w low (IsWithinCaps groups) (rank k groups)
      (caps-matroid k groups ok) (caps-ranks k groups ok) (IsGroupMet q w groups) laminar_tests
      x kx h.counts
      (record { capped = λ e lt. h.capped e (omega (arith, lt, kx)); met = h.bounded })
      (h.sum ∙ sym (times-assoc q w (pos (rank k groups (whole_set k)))))

  pub laminar_base_back : (x : List ℤ) → length x ≡ k
      → IsBase (times q (laminar_value k w groups)) x → IsLaminarBase k q w groups x
  laminar_base_back x kx base =
      let p = base_passes k (length groups) q w low (IsWithinCaps groups) (rank k groups)
      (caps-matroid k groups ok) (caps-ranks k groups ok) (IsGroupMet q w groups) laminar_tests
      x kx base in
      record {
        counts = base_counts k (length groups) q w low (IsWithinCaps groups) (rank k groups)
            (caps-matroid k groups ok) (caps-ranks k groups ok) (IsGroupMet q w groups) x kx base;
        capped = λ e lt. p.capped e (omega (arith, lt, kx));
        bounded = p.met;
        sum = base_total k (length groups) q w low (IsWithinCaps groups) (rank k groups)
            (caps-matroid k groups ok) (caps-ranks k groups ok) (IsGroupMet q w groups) x kx base
            ∙ times-assoc q w (pos (rank k groups (whole_set k)));
      }

  -- what the code tests, one after another
  pub laminar_tested : (x : List ℤ) → length x ≡ k → IsBase (times q (laminar_value k w groups)) x
      ↔ (All (λ a. (pos 0 ≤ℤ a) × (a ≤ℤ (q *ℤ w))) x × (total_of x ≡ (q *ℤ laminar_size k w groups))
      × ((i : ℕ) → i < length groups → pos 0 ≤ℤ slack_of q w x (group_at groups i)))
  laminar_tested x kx = (
    (λ b. let h = laminar_base_back x kx b in (
      (λ e d lt. rw (get_or_default x e d (pos 0) lt) (h.counts e lt, h.capped e lt)),
      total_of-whole x ∙ (all ∙ h.sum),
      (λ i lt. let l = h.bounded i lt in omega (arith, ints, l)),
    )),
    (λ (within, sum, bounded). laminar_base x kx (record {
      counts = λ e lt. (All-get_or (λ a. (pos 0 ≤ℤ a) × (a ≤ℤ (q *ℤ w))) x e (pos 0) lt within).0;
      capped = λ e lt. (All-get_or (λ a. (pos 0 ≤ℤ a) × (a ≤ℤ (q *ℤ w))) x e (pos 0) lt within).1;
      bounded = λ i lt. (let l = bounded i lt in omega (arith, ints, l));
      sum = sym all ∙ (sym (total_of-whole x) ∙ sum);
    })),
  ) where
    all : sum_over (whole_set (length x)) x ≡ sum_over (whole_set k) x
    all = ap (λ n. sum_over (whole_set n) x) kx
