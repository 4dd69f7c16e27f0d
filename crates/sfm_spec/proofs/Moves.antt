-- A walk move, one exchange after the other from the walk's last step to its first; how little it
-- changes each entry; and when its amount cannot grow.
use Rattle.std.proofs.Common.{◌≡◌, ◌≢◌, ◌⊎◌, ℕ, zero, suc, ◌+◌, ◌<◌, Bool, true, false, List, [], ◌∷◌, length, get_or, set, nat_eq, ℤ, pos, neg_ℤ, ◌+ℤ◌, ◌-ℤ◌, ◌≤ℤ◌, if◌then◌else◌, refl, sym, ap, subst, ◌∙◌, arith, inl, inr, ⊎_elim, length-set, get_or-set_other, get_or-set_same, add-one}
use Rattle.std.proofs.lemmas.Bool.{cases_eq, eq-eqb, ne_eqb}
use Rattle.std.proofs.lemmas.Int.{ints, clamps, by_lt_z}
use Rattle.sfm_spec.specs.Sets.{AreDistinct}
use Rattle.sfm_spec.specs.Terms.{times, IsBase, IsCapacity, exchanged}
use Rattle.sfm_spec.specs.Families.{Meaning, AreTerms, AreBases, rest_at, deficit}
use Rattle.sfm_spec.specs.Walks.{Step, term_at, base_at, CanMove, IsWalkMove, AllCanMove, MovesAlong, IsWalkChain, last_of, change_at}
use Rattle.sfm_spec.specs.Labels.{FallsAlong, HasFull}
use Rattle.sfm_spec.proofs.Sums.{length-exchanged}
use Rattle.sfm_spec.proofs.Walks.{terms-at, bases-at}
use Rattle.sfm_spec.proofs.Gain.{moves_along}
use Rattle.sfm_spec.proofs.MoveOrder.{exchanged-first, exchanged-second, exchanged-other, family, law, base}
use Rattle.sfm_spec.proofs.NewSteps.{base_or_not}

-- ---- one exchange after the other

-- no step moves nothing
pub move_none : (terms : List Meaning) (rows : List (List ℤ)) (at : ℕ) (a : ℤ)
    → IsWalkMove terms rows at [] a rows
move_none terms rows at a = record {
  same_count = refl;
  same_lengths = λ i. refl;
  changed = λ i j l. omega (arith, ints);
}

-- after the steps behind it, the exchange of one step more
pub move_more : (terms : List Meaning) (rows mid : List (List ℤ)) (from : ℕ) (step : Step)
    (back : List Step) (a : ℤ) (u v : ℕ) → AreDistinct (term_at terms step.term).places
    → length (base_at rows step.term) ≡ length (term_at terms step.term).places
    → u < length (term_at terms step.term).places → v < length (term_at terms step.term).places
    → u ≢ v
    → get_or (term_at terms step.term).places u 0 ≡ from
    → get_or (term_at terms step.term).places v 0 ≡ step.to → step.term < length rows
    → IsWalkMove terms rows step.to back a mid
    → IsWalkMove terms rows from (step ∷ back) a
    (set mid step.term (exchanged (base_at mid step.term) u v a))
move_more terms rows mid from step back a u v distinct sized lu lv apart begins ends li w = record {
  same_count = length-set mid i y ∙ w.same_count;
  same_lengths = λ k. lengths k (cases_eq k i);
  changed = λ k j l. changes k j l (cases_eq k i);
} where
  i : ℕ
  i = step.term

  y : List ℤ
  y = exchanged (base_at mid i) u v a

  places : List ℕ
  places = (term_at terms i).places

  lm : i < length mid
  lm = rw w.same_count li

  here : base_at (set mid i y) i ≡ y
  here = get_or-set_same mid i y [] lm

  there : (k : ℕ) → k ≢ i → base_at (set mid i y) k ≡ base_at mid k
  there k ne = get_or-set_other mid i k y [] ne

  len : length (base_at mid i) ≡ length places
  len = w.same_lengths i ∙ sized

  lengths : (k : ℕ) → (k ≡ i) ⊎ (k ≢ i) → length (base_at (set mid i y) k) ≡ length (base_at rows k)
  lengths k (inl e) = rw e (ap length here
      ∙ (length-exchanged (base_at mid i) u v a ∙ w.same_lengths i))
  lengths k (inr ne) = ap length (there k ne) ∙ w.same_lengths k

  apart_from : (j p : ℕ) → j < length places → p < length places → j ≢ p → (e : ℕ)
      → get_or places p 0 ≡ e → nat_eq e (get_or places j 0) ≡ false
  apart_from j p lj lp ne e at =
      ne_eqb e (get_or places j 0) (λ same. ne (distinct j p lj lp (sym same ∙ sym at)))

  entry : (j : ℕ) → j < length places → (j ≡ u) ⊎ (j ≢ u) → (j ≡ v) ⊎ (j ≢ v)
      → get_or y j (pos 0) ≡ (get_or (base_at mid i) j
      (pos 0) +ℤ ((if nat_eq from (get_or places j 0) then a else pos 0)
      -ℤ (if nat_eq step.to (get_or places j 0) then a else pos 0)))
  entry j lj (inl eu) (inl ev) = absurd (apart (sym eu ∙ ev))
  entry j lj (inl eu) (inr nv) =
      let r : get_or y j (pos 0) ≡ (get_or (base_at mid i) j (pos 0) +ℤ a) = rw eu
      (exchanged-first (base_at mid i) u v a (rw len lu) apart) in
      let yes' : nat_eq from (get_or places j 0) ≡ true = eq-eqb from (get_or places j 0)
      (sym begins ∙ ap (λ z. get_or places z 0) (sym eu)) in
      rw (yes', apart_from j v lj lv nv step.to ends) (omega (arith, ints, r))
  entry j lj (inr nu) (inl ev) =
      let r : get_or y j (pos 0) ≡ (get_or (base_at mid i) j (pos 0) -ℤ a) = rw ev
      (exchanged-second (base_at mid i) u v a (rw len lv)) in
      let yes' : nat_eq step.to (get_or places j 0) ≡ true = eq-eqb step.to (get_or places j 0)
      (sym ends ∙ ap (λ z. get_or places z 0) (sym ev)) in
      rw (yes', apart_from j u lj lu nu from begins) (omega (arith, ints, r))
  entry j lj (inr nu) (inr nv) =
      let r = exchanged-other (base_at mid i) u v j a nu nv in
      rw (apart_from j u lj lu nu from begins, apart_from j v lj lv nv step.to ends)
      (omega (arith, ints, r))

  changes : (k j : ℕ) → j < length (base_at rows k) → (k ≡ i) ⊎ (k ≢ i)
      → get_or (base_at (set mid i y) k) j
      (pos 0) ≡ (get_or (base_at rows k) j (pos 0) +ℤ change_at from (step ∷ back) k
      (get_or (term_at terms k).places j 0) a)
  changes k j l (inr ne) =
      let c = w.changed k j l in
      rw (there k ne, ne_eqb i k (λ e. ne (sym e))) (omega (arith, ints, c))
  changes k j l (inl e) = subst (λ z. get_or (base_at (set mid i y) z) j
      (pos 0) ≡ (get_or (base_at rows z) j (pos 0) +ℤ change_at from (step ∷ back) z
      (get_or (term_at terms z).places j 0) a)) (sym e) (at_i (rw e at l)) where
        at_i : j < length (base_at rows i)
            → get_or (base_at (set mid i y) i) j
            (pos 0) ≡ (get_or (base_at rows i) j (pos 0) +ℤ change_at from (step ∷ back) i
            (get_or places j 0) a)
        at_i lr =
            let c = w.changed i j lr in
            let r = entry j (rw (← sized) lr) (cases_eq j u) (cases_eq j v) in
            rw (here, eq-eqb i i refl) (omega (arith, ints, c, r))

-- ---- how much an entry changes

module _ (d : ℕ → ℕ) where
  -- a place that is farther than the walk's first is not on the walk
  change-far : (from : ℕ) (steps : List Step) (i e : ℕ) (a : ℤ) → FallsAlong d from steps
      → d from < d e → change_at from steps i e a ≡ pos 0
  change-far from [] i e a h far = refl
  change-far from (s ∷ ss) i e a h far =
      let f = h.0 in
      let r = change-far s.to ss i e a h.1 (omega (arith, f, far)) in
      let nf = ne_eqb from e (λ same. let q = ap d same in omega (arith, q, far)) in
      let nt = ne_eqb s.to e (λ same. let q = ap d same in omega (arith, q, f, far)) in
      by (nat_eq s.term i) nf nt r where
        by : (b : Bool) → nat_eq from e ≡ false → nat_eq s.to e ≡ false
            → change_at s.to ss i e a ≡ pos 0
            → ((if b then ((if nat_eq from e then a else pos 0)
            -ℤ (if nat_eq s.to e then a else pos 0)) else pos 0) +ℤ change_at s.to ss i e a)
            ≡ pos 0
        by true nf nt r = rw (nf, nt) (omega (arith, ints, r))
        by false nf nt r = omega (arith, ints, r)

  -- the walk's first place only begins a step
  change-first : (from : ℕ) (steps : List Step) (i : ℕ) (a : ℤ) → pos 0 ≤ℤ a
      → FallsAlong d from steps → (pos 0 ≤ℤ change_at from steps i from a)
      × (change_at from steps i from a ≤ℤ a)
  change-first from [] i a low h = (omega (arith, ints), omega (arith, ints, low))
  change-first from (s ∷ ss) i a low h =
      let f = h.0 in
      let r = change-far s.to ss i from a h.1 (omega (arith, f)) in
      let yf = eq-eqb from from refl in
      let nt = ne_eqb s.to from (λ same. let q = ap d same in omega (arith, q, f)) in
      by (nat_eq s.term i) yf nt r where
        by : (b : Bool) → nat_eq from from ≡ true → nat_eq s.to from ≡ false
            → change_at s.to ss i from a ≡ pos 0
            → (pos 0 ≤ℤ ((if b then ((if nat_eq from from then a else pos 0)
            -ℤ (if nat_eq s.to from then a else pos 0)) else pos 0) +ℤ change_at s.to ss i from
            a))
            × (((if b then ((if nat_eq from from then a else pos 0)
            -ℤ (if nat_eq s.to from then a else pos 0)) else pos 0) +ℤ change_at s.to ss i from
            a) ≤ℤ a)
        by true yf nt r = rw (yf, nt) (omega (arith, ints, r, low), omega (arith, ints, r, low))
        by false yf nt r = (omega (arith, ints, r, low), omega (arith, ints, r, low))

  -- where the distance falls along the walk no entry changes by more than the amount
  pub change_small : (from : ℕ) (steps : List Step) (i e : ℕ) (a : ℤ) → pos 0 ≤ℤ a
      → FallsAlong d from steps → (neg_ℤ a ≤ℤ change_at from steps i e a)
      × (change_at from steps i e a ≤ℤ a)
  change_small from [] i e a low h = (omega (arith, ints, low), omega (arith, ints, low))
  change_small from (s ∷ ss) i e a low h =
      at (cases_eq from e) (cases_eq s.to e) (change_small s.to ss i e a low h.1) where
        below_zero : (c : ℤ) → pos 0 ≤ℤ c → neg_ℤ a ≤ℤ c
        below_zero c x = omega (arith, ints, x, low)

        Within : Bool → Type 0
        Within b = (neg_ℤ
            a ≤ℤ ((if b then ((if nat_eq from e then a else pos 0)
            -ℤ (if nat_eq s.to e then a else pos 0)) else pos 0) +ℤ change_at s.to ss i e a))
            × (((if b then ((if nat_eq from e then a else pos 0)
            -ℤ (if nat_eq s.to e then a else pos 0)) else pos 0) +ℤ change_at s.to ss i e a) ≤ℤ a)

        at : (from ≡ e) ⊎ (from ≢ e) → (s.to ≡ e) ⊎ (s.to ≢ e)
            → (neg_ℤ a ≤ℤ change_at s.to ss i e a)
            × (change_at s.to ss i e a ≤ℤ a) → Within (nat_eq s.term i)
        at (inl ef) o r =
            let (x, y) = subst (λ z. (pos 0 ≤ℤ change_at from (s ∷ ss) i z a)
            × (change_at from (s ∷ ss) i z a ≤ℤ a)) ef (change-first from (s ∷ ss) i a low h) in
            (below_zero (change_at from (s ∷ ss) i e a) x, y)
        at (inr nf) (inl et) r = by (nat_eq s.term i) (ne_eqb from e nf) (eq-eqb s.to e et)
            (subst (λ z. (pos 0 ≤ℤ change_at s.to ss i z a) × (change_at s.to ss i z a ≤ℤ a)) et
            (change-first s.to ss i a low h.1)) where
              by : (b : Bool) → nat_eq from e ≡ false → nat_eq s.to e ≡ true
                  → (pos 0 ≤ℤ change_at s.to ss i e a) × (change_at s.to ss i e a ≤ℤ a) → Within b
              by true n y r = rw (n, y) (omega (arith, ints, r), omega (arith, ints, r, low))
              by false n y r = (omega (arith, ints, r, low), omega (arith, ints, r))
        at (inr nf) (inr nt) r = by (nat_eq s.term i) (ne_eqb from e nf) (ne_eqb s.to e nt) where
          by : (b : Bool) → nat_eq from e ≡ false → nat_eq s.to e ≡ false → Within b
          by true n y = rw (n, y) (omega (arith, ints, r), omega (arith, ints, r))
          by false n y = (omega (arith, ints, r), omega (arith, ints, r))

-- the sum of min(z(e), 0) is not above 0, nor above z at any place
pub deficit_not_above : (n : ℕ) (z : ℕ → ℤ) → deficit n z ≤ℤ pos 0
deficit_not_above zero z = omega (arith, ints)
deficit_not_above (suc n) z = let r = deficit_not_above n
    (λ e. z (suc e)) in omega (arith, ints, clamps, r)

-- nor above z at any place
pub deficit_at_place : (n : ℕ) (z : ℕ → ℤ) (e : ℕ) → e < n → deficit n z ≤ℤ z e
deficit_at_place zero z e l = absurd (omega arith)
deficit_at_place (suc n) z zero l =
    let r = deficit_not_above n (λ e. z (suc e)) in omega (arith, ints, clamps, r)
deficit_at_place (suc n) z (suc e) l =
    let r = deficit_at_place n (λ e. z (suc e)) e (omega arith) in omega (arith, ints, clamps, r)

-- ---- an amount that cannot grow

-- a step whose capacity is the amount cannot move more
pub full_by_capacity : (terms : List Meaning) (q : ℤ) (rows : List (List ℤ)) (from : ℕ)
    (step : Step) (u v : ℕ) (a : ℤ) → AreDistinct (term_at terms step.term).places
    → u < length (term_at terms step.term).places → v < length (term_at terms step.term).places
    → get_or (term_at terms step.term).places u 0 ≡ from
    → get_or (term_at terms step.term).places v 0 ≡ step.to
    → IsCapacity (times q (term_at terms step.term).value) (base_at rows step.term) u v a
    → CanMove terms q rows from step (a +ℤ pos 1) → ⊥
full_by_capacity terms q rows from step u v a distinct lu lv begins ends capacity c =
    let eu : c.u ≡ u = distinct c.u u c.u_in lu (c.begins ∙ sym begins) in
    let ev : c.v ≡ v = distinct c.v v c.v_in lv (c.ends ∙ sym ends) in
    let more = capacity.greatest (a +ℤ pos 1) (rw (eu, ev) at c.base) in
    omega (arith, ints, more)

module _ (terms : List Meaning) (rows : List (List ℤ)) (n : ℕ) (q : ℤ) (low : pos 0 ≤ℤ q)
    (fit : AreTerms n terms) (bases : AreBases q terms rows) (a : ℤ) (one : pos 1 ≤ℤ a) where
  -- a step that can move the amount can move one more, or not
  one_more : (from : ℕ) (step : Step) → CanMove terms q rows from step a
      → CanMove terms q rows from step (a +ℤ pos 1)
      ⊎ (CanMove terms q rows from step (a +ℤ pos 1) → ⊥)
  one_more from step c =
      at (base_or_not (family terms rows n q low fit bases a one step.term c.in_range)
      (law terms rows n q low fit bases a one step.term c.in_range)
      (base terms rows n q low fit bases a one step.term c.in_range) a one
      c.u c.v (a +ℤ pos 1) (rw sized c.u_in) (rw sized c.v_in) c.apart
      (omega (arith, ints, one))) where
        sized : length (base_at rows step.term) ≡ length (term_at terms step.term).places
        sized = (bases-at q terms rows step.term bases c.in_range).0

        More : Type 0
        More = IsBase (times q (term_at terms step.term).value)
            (exchanged (base_at rows step.term) c.u c.v (a +ℤ pos 1))

        distinct : AreDistinct (term_at terms step.term).places
        distinct = (terms-at n terms step.term fit c.in_range).placed.distinct

        at : More ⊎ (More → ⊥) → CanMove terms q rows from step (a +ℤ pos 1)
            ⊎ (CanMove terms q rows from step (a +ℤ pos 1) → ⊥)
        at (inl more) =
            inl (record {
              in_range = c.in_range;
              u = c.u;
              v = c.v;
              u_in = c.u_in;
              v_in = c.v_in;
              begins = c.begins;
              ends = c.ends;
              apart = c.apart;
              base = more;
            })
        at (inr none) = inr (λ c'.
            let eu : c'.u ≡ c.u = distinct c'.u c.u c'.u_in c.u_in (c'.begins ∙ sym c.begins) in
            let ev : c'.v ≡ c.v = distinct c'.v c.v c'.v_in c.v_in (c'.ends ∙ sym c.ends) in
            none (rw (eu, ev) at c'.base))

  all_or_full : (from : ℕ) (steps : List Step) → AllCanMove terms q rows from steps a
      → AllCanMove terms q rows from steps (a +ℤ pos 1) ⊎ HasFull terms q rows from steps a
  all_or_full from [] h = inl tt
  all_or_full from (s ∷ ss) h = at (one_more from s h.0) (all_or_full s.to ss h.1) where
    at : CanMove terms q rows from s (a +ℤ pos 1) ⊎ (CanMove terms q rows from s (a +ℤ pos 1) → ⊥)
        → AllCanMove terms q rows s.to ss (a +ℤ pos 1) ⊎ HasFull terms q rows s.to ss a
        → AllCanMove terms q rows from (s ∷ ss) (a +ℤ pos 1) ⊎ HasFull terms q rows from (s ∷ ss) a
    at (inl c) (inl r) = inl (c, r)
    at (inl c) (inr full) = inr (inr full)
    at (inr full) o = inr (inl full)

  -- the greatest amount that a walk and its ends allow is that of an end or of a step
  pub full_by_greatest : (shift : List ℤ) (first : ℕ) (steps : List Step)
      → AllCanMove terms q rows first steps a → a ≤ℤ neg_ℤ (rest_at terms rows shift first)
      → a ≤ℤ rest_at terms rows shift (last_of first steps)
      → ((b : ℤ) → AllCanMove terms q rows first steps b
      → b ≤ℤ neg_ℤ (rest_at terms rows shift first)
      → b ≤ℤ rest_at terms rows shift (last_of first steps) → b ≤ℤ a)
      → (a ≡ neg_ℤ (rest_at terms rows shift first))
      ⊎ ((a ≡ rest_at terms rows shift (last_of first steps))
      ⊎ HasFull terms q rows first steps a)
  full_by_greatest shift first steps can under over greatest =
      by_lt_z a (neg_ℤ (rest_at terms rows shift first))
      (λ less. by_lt_z a (rest_at terms rows shift (last_of first steps))
      (λ less'. ⊎_elim (λ all. let k = greatest (a +ℤ pos 1) all (omega (arith, ints, less))
      (omega (arith, ints, less')) in absurd (omega (arith, ints, k))) (λ full. inr (inr full))
      (all_or_full first steps can))
      (λ ge. inr (inl (omega (arith, ints, ge, over)))))
      (λ ge. inl (omega (arith, ints, ge, under)))

-- ---- moves one after the other

-- one move more at the end of a chain
pub walks_push : (terms : List Meaning) (q : ℤ) (shift : List ℤ) (t : ℕ)
    (rows mid last : List (List ℤ)) → IsWalkChain terms q shift t rows mid
    → MovesAlong terms q shift mid last
    → IsWalkChain terms q shift (t + 1) rows last
walks_push terms q shift t rows mid last h move = rw add-one (go t rows h) where
  go : (t : ℕ) (rows : List (List ℤ)) → IsWalkChain terms q shift t rows mid
      → IsWalkChain terms q shift (suc t) rows last
  go zero rows h = (last, subst (λ z. MovesAlong terms q shift z last) h move, refl)
  go (suc t) rows h = (h.0, h.1, go t h.0 h.2)

-- a chain of moves keeps the bases, and raises the sum of min(z(e), 0) by at least 1 a move
pub walks_keep : (terms : List Meaning) (n : ℕ) (q : ℤ) (shift : List ℤ) → pos 0 ≤ℤ q
    → AreTerms n terms → (t : ℕ) (rows last : List (List ℤ)) → AreBases q terms rows
    → IsWalkChain terms q shift t rows last
    → AreBases q terms last × ((deficit n (rest_at terms rows shift) +ℤ pos t) ≤ℤ deficit n
    (rest_at terms last shift))
walks_keep terms n q shift low fit zero rows last bases h =
    (rw h bases, let e = ap (λ z. deficit n (rest_at terms z shift)) h in omega (arith, ints, e))
walks_keep terms n q shift low fit (suc t) rows last bases h =
    let m = moves_along terms rows n q shift low fit bases h.0 h.1 in
    let r = walks_keep terms n q shift low fit t h.0 last m.0 h.2 in
    let x = m.1 in
    let y = r.1 in
    (r.0, omega (arith, ints, x, y))
