-- A move along a shortest walk keeps the bases, and raises the sum of min(z(e), 0) by exactly its
-- amount.
use Rattle.std.proofs.Common.{◌≡◌, ◌≢◌, ◌⊎◌, ℕ, zero, suc, ◌<◌, ◌≤◌, Bool, true, false, List, [], ◌∷◌, ◌++◌, length, get_or, nat_eq, ℤ, pos, neg_ℤ, ◌+ℤ◌, ◌-ℤ◌, ◌≤ℤ◌, ◌<ℤ◌, if◌then◌else◌, refl, sym, ap, subst, ◌∙◌, arith, inl, inr, ⊎_elim}
use Rattle.std.proofs.lemmas.Bool.{cases_eq, eq-eqb, ne_eqb}
use Rattle.std.proofs.lemmas.Int.{ints, clamps}
use Rattle.std.proofs.lemmas.List.{length-replicate, get_or-replicate, ext_get_or}
use Rattle.std.proofs.lemmas.List.Elements.{All-head, All-tail}
use Rattle.std.specs.List.{All}
use Rattle.std.specs.Int.{int_min}
use Rattle.sfm_spec.specs.Sets.{whole_set}
use Rattle.sfm_spec.specs.Sets.{IsPlaced}
use Rattle.sfm_spec.specs.Families.{Meaning, AreTerms, AreBases, entry_at, base_sum_at, rest_at, deficit}
use Rattle.sfm_spec.specs.Walks.{Step, term_at, base_at, CanMove, AreSteps, IsShortest, IsShortestTo, IsOver, MovesAlong, IsWalkMove, AllCanMove, last_of, change_at}
use Rattle.sfm_spec.specs.Laws.{MoveLaws}
use Rattle.sfm_spec.proofs.Where.{sum_where, sum_where-same, sum_where-add, sum_where-single}
use Rattle.sfm_spec.proofs.Walks.{terms-at, bases-at, each_or, first_below}
use Rattle.sfm_spec.proofs.MoveOrder.{bases-count, bases_after, each_in_order}

-- ---- the deficit

abbrev Whole : ℕ → (ℕ → ℤ) → ℤ
Whole n g = sum_where (whole_set n) g

deficit-sum : (n : ℕ) (z : ℕ → ℤ) → deficit n z ≡ Whole n (λ e. int_min (z e) (pos 0))
deficit-sum zero z = refl
deficit-sum (suc n) z = ap (λ y. int_min (z 0) (pos 0) +ℤ y) (deficit-sum n (λ e. z (suc e)))

single : (n u : ℕ) (a : ℤ) → u < n → Whole n (λ e. if nat_eq u e then a else pos 0) ≡ a
single n u a h = sum_where-single (whole_set n) u a (rw length-replicate h)
    ∙ ap (λ b. if b then a else pos 0) (get_or-replicate n u true false h)

-- u raised by a to at most 0, v lowered by a to at least 0
pub deficit-moved : (n : ℕ) (z w : ℕ → ℤ) (u v : ℕ) (a : ℤ) → u < n → u ≢ v → pos 0 ≤ℤ a
    → (z u +ℤ a) ≤ℤ pos 0 → a ≤ℤ z v
    → ((e : ℕ) → w
    e ≡ (z e +ℤ ((if nat_eq u e then a else pos 0) -ℤ (if nat_eq v e then a else pos 0))))
    → deficit n w ≡ (deficit n z +ℤ a)
deficit-moved n z w u v a hu ne low under over is =
    deficit-sum n w ∙ (sum_where-same (whole_set n) (λ e. int_min (w e) (pos 0))
    (λ e. int_min (z e) (pos 0) +ℤ (if nat_eq u e then a else pos 0))
    (λ e. at e (cases_eq u e) (cases_eq v e))
    ∙ (sum_where-add (whole_set n) (λ e. int_min (z e) (pos 0))
    (λ e. if nat_eq u e then a else pos 0)
    ∙ (ap (λ y. y +ℤ Whole n (λ e. if nat_eq u e then a else pos 0)) (sym (deficit-sum n z))
    ∙ ap (λ y. deficit n z +ℤ y) (single n u a hu)))) where
      at : (e : ℕ) → (u ≡ e) ⊎ (u ≢ e) → (v ≡ e) ⊎ (v ≢ e)
          → int_min (w e) (pos 0) ≡ (int_min (z e) (pos 0) +ℤ (if nat_eq u e then a else pos 0))
      at e (inl eu) (inl ev) = absurd (ne (eu ∙ sym ev))
      at e (inl eu) (inr nv) =
          let i = rw (eq-eqb u e eu, ne_eqb v e nv) at (is e) in
          let b : (z e +ℤ a) ≤ℤ pos 0 = rw (← eu) under in
          rw (eq-eqb u e eu) (omega (arith, ints, clamps, i, b, low))
      at e (inr nu) (inl ev) =
          let i = rw (ne_eqb u e nu, eq-eqb v e ev) at (is e) in
          let b : a ≤ℤ z e = rw (← ev) over in
          rw (ne_eqb u e nu) (omega (arith, ints, clamps, i, b, low))
      at e (inr nu) (inr nv) =
          let i = rw (ne_eqb u e nu, ne_eqb v e nv) at (is e) in
          rw (ne_eqb u e nu) (omega (arith, ints, clamps, i))

-- ---- one term's entry at a place of the ground

entry-none : (places : List ℕ) (x : List ℤ) (e : ℕ)
    → ((j : ℕ) → j < length places → get_or places j 0 ≢ e) → entry_at places x e ≡ pos 0
entry-none [] x e h = refl
entry-none (p ∷ places) [] e h = refl
entry-none (p ∷ places) (b ∷ x) e h =
    let r = entry-none places x e (λ j l. h (suc j) (omega arith)) in
    rw (ne_eqb p e (h 0 (omega arith))) (omega (arith, ints, r))

entry-place : (places : List ℕ) (x : List ℤ) (j : ℕ) → j < length places → length x ≡ length places
    → ((i k : ℕ) → i < length places → k < length places → get_or places i 0 ≡ get_or places k 0
    → i ≡ k) → entry_at places x (get_or places j 0) ≡ get_or x j (pos 0)
entry-place [] x j l s d = absurd (omega arith)
entry-place (p ∷ places) [] j l s d = absurd (omega arith)
entry-place (p ∷ places) (b ∷ x) zero l s d =
    let r = entry-none places x p
    (λ j lj same. let e = d (suc j) 0 (omega arith) (omega arith) same in omega (arith, e)) in
    rw (eq-eqb p p refl) (omega (arith, ints, r))
entry-place (p ∷ places) (b ∷ x) (suc j) l s d =
    let r = entry-place places x j (omega arith) (omega arith)
    (λ i k li lk same. let e = d (suc i) (suc k) (omega arith) (omega arith)
    same in omega (arith, e)) in
    let no = ne_eqb p (get_or places j 0)
    (λ same. let e = d 0 (suc j) (omega arith) (omega arith) same in omega (arith, e)) in
    rw no (omega (arith, ints, r))

module _ (terms : List Meaning) (rows after : List (List ℤ)) (n : ℕ) (q : ℤ)
    (fit : AreTerms n terms) (bases : AreBases q terms rows) (a : ℤ) where
  change-none : (i from : ℕ) (steps : List Step) (e : ℕ) → AllCanMove terms q rows from steps a
      → ((j : ℕ) → j < length (term_at terms i).places → get_or (term_at terms i).places j 0 ≢ e)
      → change_at from steps i e a ≡ pos 0
  change-none i from [] e h none = refl
  change-none i from (s ∷ ss) e h none =
      at (cases_eq s.term i) (change-none i s.to ss e h.1 none) where
        at : (s.term ≡ i) ⊎ (s.term ≢ i) → change_at s.to ss i e a ≡ pos 0
            → change_at from (s ∷ ss) i e a ≡ pos 0
        at (inr ne) r = rw (ne_eqb s.term i ne) (omega (arith, ints, r))
        at (inl same) r =
            let c = h.0 in
            let nf = ne_eqb from e (λ x. none c.u (rw same at c.u_in) (rw same at c.begins ∙ x)) in
            let nt = ne_eqb s.to e (λ x. none c.v (rw same at c.v_in) (rw same at c.ends ∙ x)) in
            rw (eq-eqb s.term i same, nf, nt) (omega (arith, ints, r))

  entry-moved : (i from : ℕ) (steps : List Step) (e : ℕ) → i < length terms
      → AllCanMove terms q rows from steps a → IsWalkMove terms rows from steps a after
      → entry_at (term_at terms i).places (base_at after i)
      e ≡ (entry_at (term_at terms i).places (base_at rows i) e +ℤ change_at from steps i e a)
  entry-moved i from steps e li h w =
      at (each_or (length places) (λ j. get_or places j 0 ≢ e)
      ((j : ℕ) × (j < length places) × (get_or places j 0 ≡ e))
      (λ j lj. ⊎_elim (λ same. inr (j, lj, same)) (λ ne. inl ne)
      (cases_eq (get_or places j 0) e))) where
        places : List ℕ
        places = (term_at terms i).places

        placed : IsPlaced n (term_at terms i).places
        placed = (terms-at n terms i fit li).placed

        sized : length (base_at rows i) ≡ length places
        sized = (bases-at q terms rows i bases li).0

        at : ((j : ℕ) → j < length places → get_or places j 0 ≢ e)
            ⊎ ((j : ℕ) × (j < length places) × (get_or places j 0 ≡ e))
            → entry_at places (base_at after i)
            e ≡ (entry_at places (base_at rows i) e +ℤ change_at from steps i e a)
        at (inl none) =
            let r = entry-none places (base_at after i) e none in
            let s = entry-none places (base_at rows i) e none in
            let t = change-none i from steps e h none in
            omega (arith, ints, r, s, t)
        at (inr (j, lj, same)) =
            let r = entry-place places (base_at after i) j lj (w.same_lengths i ∙ sized)
            placed.distinct in
            let s = entry-place places (base_at rows i) j lj sized placed.distinct in
            let t = w.changed i j (rw sized lj) in
            rw (← same) (r ∙ (t ∙ ap (λ y. y +ℤ change_at from steps i (get_or places j 0) a)
            (sym s)))

-- ---- all terms together

rows-sum : (terms : List Meaning) (rows : List (List ℤ)) (e : ℕ) → length rows ≡ length terms
    → base_sum_at terms rows e ≡ Whole (length terms)
    (λ i. entry_at (term_at terms i).places (base_at rows i) e)
rows-sum [] rows e h = refl
rows-sum (t ∷ terms) [] e h = absurd (omega arith)
rows-sum (t ∷ terms) (x ∷ rows) e h =
    ap (λ y. entry_at t.places x e +ℤ y) (rows-sum terms rows e (omega arith))

abbrev AllIn : ℕ → List Step → Type 0
AllIn m [] = Unit {0}
AllIn m (s ∷ ss) = (s.term < m) × AllIn m ss

-- the changes of all terms at e cancel but for the walk's ends
changes-sum : (m from : ℕ) (steps : List Step) (e : ℕ) (a : ℤ) → AllIn m steps
    → Whole m (λ i. change_at from steps i e a)
    ≡ ((if nat_eq from e then a else pos 0)
    -ℤ (if nat_eq (last_of from steps) e then a else pos 0))
changes-sum m from [] e a h = zero_sum m ∙ nothing where
  zero_sum : (m : ℕ) → Whole m (λ i. pos 0) ≡ pos 0
  zero_sum zero = refl
  zero_sum (suc m) = let r = zero_sum m in omega (arith, ints, r)

  nothing : pos 0 ≡ ((if nat_eq from e then a else pos 0) -ℤ (if nat_eq from e then a else pos 0))
  nothing = omega (arith, ints)
changes-sum m from (s ∷ ss) e a h =
    let c : ℤ = (if nat_eq from e then a else pos 0) -ℤ (if nat_eq s.to e then a else pos 0) in
    let r = changes-sum m s.to ss e a h.1 in
    let one = single m s.term c h.0 in
    sum_where-add (whole_set m) (λ i. if nat_eq s.term i then c else pos 0)
    (λ i. change_at s.to ss i e a)
    ∙ (ap (λ y. y +ℤ Whole m (λ i. change_at s.to ss i e a)) one
    ∙ (ap (λ y. c +ℤ y) r ∙ ends c r)) where
      ends : (c : ℤ) → Whole m (λ i. change_at s.to ss i e a)
          ≡ ((if nat_eq s.to e then a else pos 0)
          -ℤ (if nat_eq (last_of s.to ss) e then a else pos 0))
          → (((if nat_eq from e then a else pos 0) -ℤ (if nat_eq s.to e then a else pos 0))
          +ℤ ((if nat_eq s.to e then a else pos 0)
          -ℤ (if nat_eq (last_of s.to ss) e then a else pos 0)))
          ≡ ((if nat_eq from e then a else pos 0)
          -ℤ (if nat_eq (last_of s.to ss) e then a else pos 0))
      ends c r = omega (arith, ints)

sum_where-below : (s : List Bool) (g h : ℕ → ℤ) → ((e : ℕ) → e < length s → g e ≡ h e)
    → sum_where s g ≡ sum_where s h
sum_where-below [] g h same = refl
sum_where-below (b ∷ s) g h same =
    ap (λ y. (if b then y else pos 0) +ℤ sum_where s (λ e. g (suc e))) (same 0 (omega arith))
    ∙ ap (λ y. (if b then h 0 else pos 0) +ℤ y)
    (sum_where-below s (λ e. g (suc e)) (λ e. h (suc e)) (λ e l. same (suc e) (omega arith)))

all_in : (terms : List Meaning) (rows : List (List ℤ)) (q a : ℤ) (from : ℕ) (steps : List Step)
    → AllCanMove terms q rows from steps a → AllIn (length terms) steps
all_in terms rows q a from [] h = tt
all_in terms rows q a from (s ∷ ss) h = (h.0.in_range, all_in terms rows q a s.to ss h.1)

module _ (terms : List Meaning) (rows : List (List ℤ)) (n : ℕ) (q : ℤ) (low : pos 0 ≤ℤ q)
    (fit : AreTerms n terms) (bases : AreBases q terms rows) (first : ℕ) (steps : List Step) (a : ℤ)
    (one : pos 1 ≤ℤ a) (can : AllCanMove terms q rows first steps a) where
  -- the sum of the rows changes at the walk's ends alone
  pub rest_moved : (shift : List ℤ) (after : List (List ℤ))
      → IsWalkMove terms rows first steps a after → (e : ℕ)
      → rest_at terms after shift e
      ≡ (rest_at terms rows shift
      e +ℤ ((if nat_eq first e then a else pos 0)
      -ℤ (if nat_eq (last_of first steps) e then a else pos 0)))
  rest_moved shift after w e =
      let m = length terms in
      let count : length rows ≡ length terms = bases-count q terms rows bases in
      let s1 = rows-sum terms after e (w.same_count ∙ count) in
      let s2 = rows-sum terms rows e count in
      let each = sum_where-below (whole_set m)
      (λ i. entry_at (term_at terms i).places (base_at after i) e)
      (λ i. entry_at (term_at terms i).places (base_at rows i) e +ℤ change_at first steps i e a)
      (λ i l. entry-moved terms rows after n q fit bases a i first steps e
      (rw (← length-replicate m true) l) can w) in
      let added = sum_where-add (whole_set m)
      (λ i. entry_at (term_at terms i).places (base_at rows i) e)
      (λ i. change_at first steps i e a) in
      let changes = changes-sum m first steps e a (all_in terms rows q a first steps can) in
      omega (arith, ints, s1, s2, each, added, changes)

  module _ (IsLast : ℕ → Type 0) (shortest : IsShortestTo terms q rows IsLast first steps)
      (apart : first ≢ last_of first steps) where
    few : (other : List Step) → AreSteps terms q rows first other
        → last_of first other ≡ last_of first steps → length steps ≤ length other
    few [] fits same = absurd (apart same)
    few (o ∷ os) fits same = shortest.fewest (o ∷ os)
        (record { steps_exist = omega arith; steps_fit = fits })
        (subst IsLast (sym same) shortest.arrives)

    -- along a shortest walk to any of some last places, of which the first is none, from the last
    -- step to the first, each step can still move the amount after the steps behind it have moved
    pub order_kept : (front back : List Step) (step : Step) (mid : List (List ℤ))
        → steps ≡ front ++ step ∷ back → IsWalkMove terms rows step.to back a mid
        → CanMove terms q mid (last_of first front) step a
    order_kept = each_in_order terms rows n q low fit bases a one first steps can few

    -- and the rows afterwards are bases
    pub bases_kept : (after : List (List ℤ)) → IsWalkMove terms rows first steps a after
        → AreBases q terms after
    bases_kept after w = bases_after terms rows n q low fit bases a one first steps after can few w

-- order of exchanges along a joining shortest walk
pub move_laws : (terms : List Meaning) (rows : List (List ℤ)) (n : ℕ) (q : ℤ) (shift : List ℤ)
    → pos 0 ≤ℤ q → AreTerms n terms → AreBases q terms rows
    → (first : ℕ) (steps : List Step) (a : ℤ)
    → IsShortest terms q shift rows first steps → pos 1 ≤ℤ a → AllCanMove terms q rows first steps a
    → a ≤ℤ neg_ℤ (rest_at terms rows shift first)
    → a ≤ℤ rest_at terms rows shift (last_of first steps)
    → MoveLaws terms n q shift rows first steps a
move_laws terms rows n q shift low fit bases first steps a shortest one can under over = record {
  in_order = order_kept terms rows n q low fit bases first steps a one can (IsOver terms rows shift)
      shortest.shortest apart;
  bases = bases_kept terms rows n q low fit bases first steps a one can (IsOver terms rows shift)
      shortest.shortest apart;
  gains = λ after w. deficit-moved n (rest_at terms rows shift) (rest_at terms after shift) first
      (last_of first steps) a
      (first_below terms rows n q low fit bases first steps shortest.shortest.walk) apart
      (omega (arith, ints)) (omega (arith, ints, under)) over
      (rest_moved terms rows n q low fit bases first steps a one can shift after w);
} where
  apart : first ≢ last_of first steps
  apart same = let b = shortest.below in let c : pos 0 <ℤ rest_at terms rows shift first = rw same
      shortest.shortest.arrives in omega (arith, ints, b, c)

-- the same for a move as a whole
pub moves_along : (terms : List Meaning) (rows : List (List ℤ)) (n : ℕ) (q : ℤ) (shift : List ℤ)
    → pos 0 ≤ℤ q → AreTerms n terms → AreBases q terms rows → (after : List (List ℤ))
    → MovesAlong terms q shift rows after
    → AreBases q terms after × ((deficit n (rest_at terms rows shift) +ℤ pos 1) ≤ℤ deficit n
    (rest_at terms after shift))
moves_along terms rows n q shift low fit bases after m =
    let laws = move_laws terms rows n q shift low fit bases m.first m.steps m.a m.shortest m.some
    m.by_steps m.by_first m.by_last in
    let gain = laws.gains after m.moved in
    let some = m.some in
    (laws.bases after m.moved, omega (arith, ints, gain, some))

-- the row of a term that takes no step of the walk stays as it is
pub row_kept : (terms : List Meaning) (rows after : List (List ℤ)) (first : ℕ) (steps : List Step)
    (a : ℤ) (i : ℕ) → IsWalkMove terms rows first steps a after → All (λ step. step.term ≢ i) steps
    → base_at after i ≡ base_at rows i
row_kept terms rows after first steps a i w others =
    ext_get_or (pos 0) (base_at after i) (base_at rows i) (w.same_lengths i)
    (λ j lj. let l : j < length (base_at rows i) = rw (← w.same_lengths i) lj in
    let c = w.changed i j l in
    let z = none first steps (get_or (term_at terms i).places j 0) others in
    omega (arith, ints, c, z)) where
      none : (from : ℕ) (steps : List Step) (e : ℕ) → All (λ step. step.term ≢ i) steps
          → change_at from steps i e a ≡ pos 0
      none from [] e h = refl
      none from (s ∷ ss) e h =
          let r = none s.to ss e (All-tail (λ step. step.term ≢ i) s ss h) in
          rw (ne_eqb s.term i (All-head (λ step. step.term ≢ i) s ss h)) (omega (arith, ints, r))
