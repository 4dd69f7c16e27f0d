-- The tests of vertices one after another. A part of the edges that has a vertex whose test was
-- passed asks no more in another test, so there such a vertex may hold as much as may be.
use Rattle.std.proofs.Common.{◌≡◌, ◌≢◌, ◌⊎◌, ℕ, zero, suc, ◌<◌, ◌≤◌, Bool, true, false, List, length, get_or, set, replicate, ℤ, pos, ◌≤ℤ◌, refl, sym, ◌∙◌, arith, inl, inr, ⊎_elim, length-set, get_or-set_other, get_or-set_same}
use Rattle.std.proofs.lemmas.Bool.{cases_Bool, cases_eq, both_ways}
use Rattle.std.proofs.lemmas.Int.{ints}
use Rattle.std.proofs.lemmas.List.{length-replicate, get_or-replicate}
use Rattle.std.proofs.lemmas.List.Elements.{All-replicate, All-set}
use Rattle.sfm_spec.specs.Sets.{Has}
use Rattle.sfm_spec.specs.Kinds.{Edge}
use Rattle.sfm_spec.proofs.Order.{sum_agree}
use Rattle.sfm_spec.proofs.Scaled.{times-mono}
use Rattle.sfm_rank.proofs.Members.{has_place}
use Rattle.sfm_law.proofs.Monotone.{AreCounts}
use Rattle.sfm_assign.specs.Splits.{slots_of, CanBeMet, IsCapacity}
use Rattle.sfm_cells.proofs.Hall.{hall_easy}
use Rattle.sfm_cells.proofs.Rows.{AreBelow, length-slots_of}
use Rattle.sfm_graphic.specs.Cuts.{touches, ends_but, IsWithinEnds}
use Rattle.sfm_graphic.specs.Graphs.{EndsBelow}
use Rattle.sfm_graphic.specs.Notes.{AreFreed}
use Rattle.sfm_graphic.specs.Numbered.{end_lists, vertex_capacities}
use Rattle.sfm_graphic.proofs.OneTest.{ends-least}
use Rattle.sfm_graphic.proofs.SplitTests.{ends-sum, ends_exist, length-ends, touches-listed, within_ends_split}
use Rattle.sfm_matroid.proofs.SplitTests.{slots_of-at}

-- demands that can be met can be where each slot holds no less
met_wider : (demands : List ℤ) (lists : List (List ℕ)) (least most : List ℤ)
    → length least ≡ length most → ((v : ℕ) → v < length most
    → get_or least v (pos 0) ≤ℤ get_or most v (pos 0)) → CanBeMet demands lists least
    → CanBeMet demands lists most
met_wider demands lists least most same more (rows, is) = (
  rows,
  record {
    row_each = is.row_each;
    cells = is.cells;
    amounts = is.amounts;
    met = is.met;
    within = λ v lv. let h = is.within v (omega (arith, lv, same)) in let up = more v
        lv in omega (arith, ints, h, up);
  },
)

module _ (edges : List Edge) (m : ℕ) (below : EndsBelow edges m) (c : ℤ) (low : pos 0 ≤ℤ c)
    (x : List ℤ) (sized : length x ≡ length edges) (held : List ℤ) (h : AreFreed edges m c x held)
    (a : ℕ) (lt : a < m) where
  -- what vertices hold in the test of a
  abbrev tested : List ℤ
  tested = set held a (pos 0)

  places : length tested ≡ m
  places = length-set held a (pos 0) ∙ h.places

  vertices : length (vertex_capacities m c a) ≡ m
  vertices = length-set (replicate m c) a (pos 0) ∙ length-replicate m c

  inside : a < length held
  inside = let p = h.places in omega (arith, p, lt)

  inside_level : a < length (replicate m c)
  inside_level = let p = length-replicate m c in omega (arith, p, lt)

  level : (v : ℕ) → v < m → get_or (replicate m c) v (pos 0) ≡ c
  level v lv = get_or-replicate m v c (pos 0) lv

  more : (v : ℕ) → v < length tested → get_or (vertex_capacities m c a) v (pos 0) ≤ℤ get_or tested v
      (pos 0)
  more v lv = ⊎_elim
      (λ (same : v ≡ a). rw (
        same,
        get_or-set_same (replicate m c) a (pos 0) (pos 0) inside_level,
        get_or-set_same held a (pos 0) (pos 0) inside,
      ) (omega (arith, ints)))
      (λ (ne : v ≢ a).
      let p = places in
      let vm : v < m = omega (arith, lv, p) in
      rw (
        get_or-set_other (replicate m c) a v (pos 0) (pos 0) ne,
        get_or-set_other held a v (pos 0) (pos 0) ne,
        level v vm,
      ) (h.least v vm))
      (cases_eq v a)

  -- edges that pass the test of a can be met
  pub freed_met : AreCounts x → IsWithinEnds edges m c x a → CanBeMet x (end_lists edges) tested
  freed_met counts within = met_wider x (end_lists edges) (vertex_capacities m c a) tested
      (vertices ∙ sym places) more (within_ends_split edges m below c x sized a lt low counts
      within)

  -- a vertex of a part whose test was passed
  abbrev IsPassedIn : List Bool → ℕ → Type 0
  IsPassedIn s v = (v < m) × (touches edges s v ≡ true) × IsWithinEnds edges m c x v

  -- such a vertex, or the first n vertices of the part hold c
  look : (s : List Bool) (n : ℕ) → n ≤ m → ((v : ℕ) × IsPassedIn s v)
      ⊎ ((v : ℕ) → v < n → touches edges s v ≡ true → get_or held v (pos 0) ≡ c)
  look s zero le = inr (λ v lv t. absurd (omega (arith, lv)))
  look s (suc n) le = ⊎_elim (λ found. inl found)
      (λ before. at before (cases_Bool (touches edges s n)) (h.freed n (omega (arith, le))))
      (look s n (omega (arith, le))) where
        Before : Type 0
        Before = (v : ℕ) → v < n → touches edges s v ≡ true → get_or held v (pos 0) ≡ c

        last : Before → (touches edges s n ≡ true → get_or held n (pos 0) ≡ c) → (v : ℕ) → v < suc n
            → touches edges s v ≡ true → get_or held v (pos 0) ≡ c
        last before here v lv t = ⊎_elim
            (λ (same : v ≡ n). rw same (here (rw same at t)))
            (λ (ne : v ≢ n). before v (omega (arith, lv, ne)) t)
            (cases_eq v n)

        at : Before → (touches edges s n ≡ true) ⊎ (touches edges s n ≡ false)
            → (get_or held n (pos 0) ≡ c) ⊎ IsWithinEnds edges m c x n → ((v : ℕ) × IsPassedIn s v)
            ⊎ ((v : ℕ) → v < suc n → touches edges s v ≡ true → get_or held v (pos 0) ≡ c)
        at before touched (inl is) = inr (last before (λ t. is))
        at before (inl t) (inr within) = inl (n, (omega (arith, le), t, within))
        at before (inr f) (inr within) = inr (last before (λ t. absurd (both_ways _ f t)))

  -- and edges that can be met pass it
  pub met_freed : CanBeMet x (end_lists edges) tested → IsWithinEnds edges m c x a
  met_freed can s ks = ⊎_elim
      (λ (v, (lv, touched, within)).
      let w = within s ks in
      let n = ends-least edges m below v lv a s touched in
      let up = times-mono c (pos (ends_but edges m v s)) (pos (ends_but edges m a s)) low
      (omega (arith, ints, n)) in
      omega (arith, ints, w, up))
      (λ same.
      let exist : AreBelow (length tested) (end_lists edges) = rw places
      (ends_exist edges m below) in
      let most = rw places at (hall_easy x (end_lists edges) tested s
      (length-ends edges ∙ sym sized) exist (ks ∙ sym sized) can) in
      let e = sum_agree (slots_of m (end_lists edges) s) tested (vertex_capacities m c a)
      (places ∙ sym vertices) (agree same) in
      let b = ends-sum edges m below c x sized a lt s in
      omega (arith, ints, most, e, b))
      (look s m (omega arith)) where
        agree : ((v : ℕ) → v < m → touches edges s v ≡ true → get_or held v (pos 0) ≡ c) → (v : ℕ)
            → Has (slots_of m (end_lists edges) s) v
            → get_or tested v (pos 0) ≡ get_or (vertex_capacities m c a) v (pos 0)
        agree same v has =
            let l = length-slots_of m (end_lists edges) s in
            let p = has_place (slots_of m (end_lists edges) s) v has in
            let vm : v < m = omega (arith, p, l) in
            let t = sym (slots_of-at m (end_lists edges) s v vm ∙ touches-listed edges s v) ∙ has in
            ⊎_elim
            (λ (e : v ≡ a). rw (
              e,
              get_or-set_same (replicate m c) a (pos 0) (pos 0) inside_level,
              get_or-set_same held a (pos 0) (pos 0) inside,
            ) refl)
            (λ (ne : v ≢ a). rw (
              get_or-set_other (replicate m c) a v (pos 0) (pos 0) ne,
              get_or-set_other held a v (pos 0) (pos 0) ne,
              level v vm,
            ) (same v vm t))
            (cases_eq v a)

  -- then it may hold as much as may be
  pub freed_next : (most : ℤ) → IsCapacity most → c ≤ℤ most → IsWithinEnds edges m c x a
      → AreFreed edges m c x (set tested a most)
  freed_next most bounded high within = record {
    places = length-set tested a most ∙ places;
    bounded = All-set IsCapacity tested a most bounded
        (All-set IsCapacity held a (pos 0)
        (record { low = omega (arith, ints); high = omega (arith, ints) }) h.bounded);
    least = λ v lv. ⊎_elim
        (λ (same : v ≡ a). rw (same, here) high)
        (λ (ne : v ≢ a). rw (other v ne) (h.least v lv))
        (cases_eq v a);
    freed = λ v lv. ⊎_elim
        (λ (same : v ≡ a). inr (rw same within))
        (λ (ne : v ≢ a). rw (other v ne) (h.freed v lv))
        (cases_eq v a);
  } where
    here : get_or (set tested a most) a (pos 0) ≡ most
    here = let p = places in get_or-set_same tested a most (pos 0) (omega (arith, p, lt))

    other : (v : ℕ) → v ≢ a → get_or (set tested a most) v (pos 0) ≡ get_or held v (pos 0)
    other v ne = get_or-set_other tested a v most (pos 0) ne
        ∙ get_or-set_other held a v (pos 0) (pos 0) ne

-- at first each vertex holds c
pub freed_none : (edges : List Edge) (m : ℕ) (c : ℤ) (x : List ℤ) → IsCapacity c
    → AreFreed edges m c x (replicate m c)
freed_none edges m c x bounded = record {
  places = length-replicate m c;
  bounded = All-replicate IsCapacity m c bounded;
  least = λ v lv. rw (get_or-replicate m v c (pos 0) lv) (omega (arith, ints));
  freed = λ v lv. inl (get_or-replicate m v c (pos 0) lv);
}
