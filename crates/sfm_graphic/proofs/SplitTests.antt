-- The tests of bases as demands that are split over slots: each edge over its two ends, the
-- capacity of one vertex being 0. Demands can be split exactly where they pass the test. Textbook:
-- Schrijver, Combinatorial Optimization, section 22 (Hall's condition).
use Rattle.std.proofs.Common.{◌≡◌, ◌≢◌, ℕ, zero, suc, ◌<◌, Bool, true, false, not, ◌&&◌, ◌||◌, List, [], ◌∷◌, length, get_or, set, replicate, nat_eq, ℤ, pos, ◌*ℤ◌, ◌≤ℤ◌, refl, sym, ap, ◌∙◌, arith, ⊎_elim, length-set, get_or-set_other, get_or-set_same}
use Rattle.std.specs.List.{All}
use Rattle.std.proofs.lemmas.Bool.{cases_eq}
use Rattle.std.proofs.lemmas.Int.{ints}
use Rattle.std.proofs.lemmas.List.{length-replicate, get_or-replicate}
use Rattle.sfm_spec.specs.Sets.{sum_over}
use Rattle.sfm_spec.specs.Kinds.{Edge}
use Rattle.sfm_assign.specs.Splits.{slots_of, CanBeMet}
use Rattle.sfm_cells.proofs.Rows.{AreBelow, length-slots_of}
use Rattle.sfm_cells.proofs.Hall.{hall_easy}
use Rattle.sfm_split.proofs.Filling.{hall}
use Rattle.sfm_law.proofs.Monotone.{AreCounts}
use Rattle.sfm_matroid.specs.Counts.{count_below}
use Rattle.sfm_matroid.specs.Counting.{count-same}
use Rattle.sfm_graphic.specs.Graphs.{EndsBelow}
use Rattle.sfm_graphic.specs.Cuts.{touches, ends_but, IsWithinEnds}
use Rattle.sfm_graphic.specs.Numbered.{end_lists, vertex_capacities}
use Rattle.sfm_matroid.specs.Slots.{listed}
use Rattle.sfm_matroid.proofs.SplitTests.{slots_of-at}
use Rattle.sfm_graphic.proofs.MatroidTests.{sum-but}

-- ---- what vertices hold, but one

pub but-sum : (m : ℕ) (lists : List (List ℕ)) (s : List Bool) (c : ℤ) (a : ℕ) → a < m
    → sum_over (slots_of m lists s)
    (set (replicate m c) a (pos 0))
    ≡ (c *ℤ pos (count_below m (λ v. listed lists s v && not (nat_eq v a))))
but-sum m lists s c a lt =
    let z = slots_of m lists s in
    let l = length-slots_of m lists s in
    let h = rw l at (sum-but z c a (omega (arith, l, lt))) in
    let e = count-same m (λ v. get_or z v false && not (nat_eq v a))
    (λ v. listed lists s v && not (nat_eq v a))
    (λ v lv. ap (λ b. b && not (nat_eq v a)) (slots_of-at m lists s v lv)) in
    h ∙ ap (λ i. c *ℤ pos i) e

-- ---- edges, each with its ends

pub length-ends : (edges : List Edge) → length (end_lists edges) ≡ length edges
length-ends [] = refl
length-ends (edge ∷ edges) = let r : length (end_lists edges) ≡ length edges = length-ends
    edges in omega (arith, r)

pub touches-listed : (edges : List Edge) (s : List Bool) (v : ℕ)
    → listed (end_lists edges) s v ≡ touches edges s v
touches-listed [] s v = refl
touches-listed (edge ∷ edges) [] v = refl
touches-listed (edge ∷ edges) (b ∷ s) v = rw (touches-listed edges s v, plain (nat_eq edge.head v))
    refl where
      plain : (b : Bool) → (b || false) ≡ b
      plain true = refl
      plain false = refl

pub ends_exist : (edges : List Edge) (m : ℕ) → EndsBelow edges m → AreBelow m (end_lists edges)
ends_exist [] m below i d lt = absurd (omega (arith, lt))
ends_exist (edge ∷ edges) m below zero d lt = two where
  two : All (λ s. s < m) (edge.tail ∷ edge.head ∷ [])
  two zero d lt = (below 0 (omega arith)).0
  two (suc zero) d lt = (below 0 (omega arith)).1
  two (suc (suc i)) d lt = absurd (omega (arith, lt))
ends_exist (edge ∷ edges) m below (suc i) d lt =
    ends_exist edges m (λ e le. below (suc e) (omega arith)) i d (omega arith)

module _ (edges : List Edge) (m : ℕ) (below : EndsBelow edges m) (c : ℤ) (x : List ℤ)
    (sized : length x ≡ length edges) (a : ℕ) (lt : a < m) where
  vertices : length (vertex_capacities m c a) ≡ m
  vertices = length-set (replicate m c) a (pos 0) ∙ length-replicate m c

  -- what the ends of a part hold
  pub ends-sum : (s : List Bool)
      → sum_over (slots_of m (end_lists edges) s)
      (vertex_capacities m c a) ≡ (c *ℤ pos (ends_but edges m a s))
  ends-sum s =
      let e = count-same m (λ v. listed (end_lists edges) s v && not (nat_eq v a))
      (λ v. touches edges s v && not (nat_eq v a))
      (λ v lv. ap (λ b. b && not (nat_eq v a)) (touches-listed edges s v)) in
      but-sum m (end_lists edges) s c a lt ∙ ap (λ i. c *ℤ pos i) e

  -- what is split passes the test
  pub split_within_ends : CanBeMet x (end_lists edges) (vertex_capacities m c a)
      → IsWithinEnds edges m c x a
  split_within_ends can s ks =
      let exist : AreBelow (length (vertex_capacities m c a)) (end_lists edges) = rw vertices
      (ends_exist edges m below) in
      let h = rw vertices at (hall_easy x (end_lists edges) (vertex_capacities m c a) s
      (length-ends edges ∙ sym sized) exist (ks ∙ sym sized) can) in
      let e = ends-sum s in
      omega (arith, ints, h, e)

  -- what passes it is split
  pub within_ends_split : pos 0 ≤ℤ c → AreCounts x → IsWithinEnds edges m c x a
      → CanBeMet x (end_lists edges) (vertex_capacities m c a)
  within_ends_split low counts within =
      let exist : AreBelow (length (vertex_capacities m c a)) (end_lists edges) = rw vertices
      (ends_exist edges m below) in
      hall x (end_lists edges) (vertex_capacities m c a) (length-ends edges ∙ sym sized) exist
      counts caps (λ s ks. rw vertices
      (let h = within s (ks ∙ sized) in let e = ends-sum s in omega (arith, ints, h, e))) where
        caps : (s : ℕ) → s < length (vertex_capacities m c a)
            → pos 0 ≤ℤ get_or (vertex_capacities m c a) s (pos 0)
        caps s ls =
            let v = vertices in
            let l = length-replicate m c in
            ⊎_elim
            (λ (same : s ≡ a). rw (
              same,
              get_or-set_same (replicate m c) a (pos 0) (pos 0) (omega (arith, l, lt)),
            )
            (omega (arith, ints)))
            (λ (ne : s ≢ a). rw (
              get_or-set_other (replicate m c) a s (pos 0) (pos 0) ne,
              get_or-replicate m s c (pos 0) (omega (arith, ls, v)),
            ) low)
            (cases_eq s a)
