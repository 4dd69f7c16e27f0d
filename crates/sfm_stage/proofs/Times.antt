-- Multiples of bases: the same walks lead at them, and what is moved and what is left is multiplied
-- with them.
use Rattle.std.proofs.Common.{◌≡◌, ◌↔◌, ⊎_elim, inr, ℕ, zero, ◌<◌, Bool, true, false, List, [], ◌∷◌, length, map, get_or, set, nat_eq, ℤ, pos, ◌+ℤ◌, ◌-ℤ◌, ◌*ℤ◌, ◌≤ℤ◌, if◌then◌else◌, sym, ap, subst, ◌∙◌, arith}
use Rattle.std.proofs.Math.IntN.{*ℤ-zero}
use Rattle.std.proofs.Math.ListN.{get_or-map}
use Rattle.std.proofs.lemmas.Int.{ints}
use Rattle.std.proofs.lemmas.List.{length-map, map-set}
use Rattle.sfm_spec.specs.Terms.{SetFunction, times, IsBase, HasRoom, exchanged}
use Rattle.sfm_spec.specs.Families.{Meaning, AreTerms, AreBases, base_sum_at, rest_at}
use Rattle.sfm_spec.specs.Rows.{Depends}
use Rattle.sfm_spec.specs.Walks.{Step, term_at, base_at, CanMove, IsStep, AreSteps, AllCanMove, IsWalkMove, change_at}
use Rattle.sfm_spec.proofs.Scaled.{times-add, times-mono, times-sub}
use Rattle.sfm_spec.proofs.Walks.{terms-at, bases-at}
use Rattle.sfm_exchange.specs.Scaled.{row_times, rows_times}
use Rattle.sfm_exchange.proofs.Scaling.{depends_times, base-times}
use Rattle.sfm_exchange.proofs.Summing.{number_at, part_times, sum_times}

times-one : (q : ℤ) → (q *ℤ pos 1) ≡ q
times-one q = omega (arith, ints)

module _ (q : ℤ) (low : pos 1 ≤ℤ q) where
  -- of the terms themselves
  base_multiple : (f : SetFunction) (x : List ℤ) → IsBase (times (pos 1) f) x
      → IsBase (times q f) (row_times q x)
  base_multiple f x h = subst (λ r. IsBase (times r f) (row_times q x)) (times-one q)
      (base-times q (pos 1) f x low h)

  -- a multiple of something is something
  pub some_times : (a : ℤ) → pos 1 ≤ℤ a → pos 1 ≤ℤ (q *ℤ a)
  some_times a some =
      let m = times-mono q (pos 1) a (omega (arith, ints, low)) some in
      let o = times-one q in
      omega (arith, ints, m, o, low)

  -- what stands at a place of a list
  row_at : (rows : List (List ℤ)) (i : ℕ)
      → base_at (rows_times q rows) i ≡ row_times q (base_at rows i)
  row_at rows i = get_or-map (row_times q) rows i []

  -- the sum of the bases at a place, less the shift
  pub rest_times : (terms : List Meaning) (rows : List (List ℤ)) (shift : List ℤ) (e : ℕ)
      → rest_at terms (rows_times q rows) shift
      e ≡ ((q *ℤ base_sum_at terms rows e) -ℤ get_or shift e (pos 0))
  rest_times terms rows shift e = ap (λ z. z -ℤ get_or shift e (pos 0)) (sum_times q terms rows e)

  -- an exchange
  exchanged_times : (x : List ℤ) (u v : ℕ) (a : ℤ)
      → exchanged (row_times q x) u v (q *ℤ a) ≡ row_times q (exchanged x u v a)
  exchanged_times x u v a =
      let f : ℤ → ℤ = λ b. q *ℤ b in
      let s : ℤ = get_or x u (pos 0) +ℤ a in
      let t : ℤ = get_or x v (pos 0) -ℤ a in
      let es : (get_or (row_times q x) u (pos 0) +ℤ (q *ℤ a)) ≡ (q *ℤ s) = ap (λ z. z +ℤ (q *ℤ a))
      (number_at q x u) ∙ sym (times-add q (get_or x u (pos 0)) a) in
      let et : (get_or (row_times q x) v (pos 0) -ℤ (q *ℤ a)) ≡ (q *ℤ t) = ap (λ z. z -ℤ (q *ℤ a))
      (number_at q x v) ∙ sym (times-sub q (get_or x v (pos 0)) a) in
      ap (λ z. set (set (row_times q x) u z) v (get_or (row_times q x) v (pos 0) -ℤ (q *ℤ a))) es
      ∙ ap (λ z. set (set (row_times q x) u (q *ℤ s)) v z) et
      ∙ ap (λ y. set y v (q *ℤ t)) (sym (map-set f x u s))
      ∙ sym (map-set f (set x u s) v t)

  -- a step that moves something
  pub can_times : (terms : List Meaning) (rows : List (List ℤ)) (from : ℕ) (step : Step) (a : ℤ)
      → CanMove terms (pos 1) rows from step a
      → CanMove terms q (rows_times q rows) from step (q *ℤ a)
  can_times terms rows from step a c =
      let x = base_at rows step.term in
      let f = (term_at terms step.term).value in
      let same : exchanged (base_at (rows_times q rows) step.term) c.u c.v (q *ℤ a) ≡ row_times q
      (exchanged x c.u c.v a)
      = ap (λ y. exchanged y c.u c.v (q *ℤ a)) (row_at rows step.term)
      ∙ exchanged_times x c.u c.v a in
      record {
        in_range = c.in_range;
        u = c.u;
        v = c.v;
        u_in = c.u_in;
        v_in = c.v_in;
        begins = c.begins;
        ends = c.ends;
        apart = c.apart;
        base = subst (λ y. IsBase (times q f) y) (sym same)
            (base_multiple f (exchanged x c.u c.v a) c.base);
      }

  pub all_can_times : (terms : List Meaning) (rows : List (List ℤ)) (from : ℕ) (steps : List Step)
      (a : ℤ) → AllCanMove terms (pos 1) rows from steps a
      → AllCanMove terms q (rows_times q rows) from steps (q *ℤ a)
  all_can_times terms rows from [] a h = tt
  all_can_times terms rows from (s ∷ steps) a h =
      (can_times terms rows from s a h.0, all_can_times terms rows s.to steps a h.1)

  pub steps_times : (terms : List Meaning) (rows : List (List ℤ)) (from : ℕ) (steps : List Step)
      → AreSteps terms (pos 1) rows from steps → AreSteps terms q (rows_times q rows) from steps
  steps_times terms rows from [] h = tt
  steps_times terms rows from (s ∷ steps) h =
      let (a, some, c) = h.0 in (
        (q *ℤ a, some_times a some, can_times terms rows from s a c),
        steps_times terms rows s.to steps h.1,
      )

  -- and the other way round: where a multiple can move something, so can the base
  module _ (terms : List Meaning) (rows : List (List ℤ)) (n : ℕ) (fit : AreTerms n terms)
      (bases : AreBases (pos 1) terms rows) where
    step_back : (from : ℕ) (step : Step) → IsStep terms q (rows_times q rows) from step
        → IsStep terms (pos 1) rows from step
    step_back from step (a, some, c) =
        let i = step.term in
        let f = (term_at terms i).value in
        let x = base_at rows i in
        let t = terms-at n terms i fit c.in_range in
        let b = bases-at (pos 1) terms rows i bases c.in_range in
        let once = times-one q in
        let many : pos 1 ≤ℤ (q *ℤ pos 1) = omega (arith, ints, once, low) in
        let unit : pos 1 ≤ℤ pos 1 = omega (arith, ints) in
        let room : HasRoom (times q f) (row_times q x) c.u
        c.v = (
          a,
          some,
          subst (λ y. IsBase (times q f) (exchanged y c.u c.v a)) (row_at rows i)
              c.base,
        ) in
        let alike : Depends (times (pos 1) f) x c.u c.v
        ↔ Depends (times q f) (row_times q x) c.u c.v
        = subst (λ r. Depends (times (pos 1) f) x c.u c.v
        ↔ Depends (times r f) (row_times q x) c.u c.v) once
        (depends_times t.family t.submodular (pos 1) q unit low many x b.0 b.1
        (base-times q (pos 1) f x low b.1) c.u c.v c.u_in c.v_in) in
        ⊎_elim
        (λ same. absurd (c.apart (sym same)))
        (λ (k, more, base). (
          k,
          more,
          record {
            in_range = c.in_range;
            u = c.u;
            v = c.v;
            u_in = c.u_in;
            v_in = c.v_in;
            begins = c.begins;
            ends = c.ends;
            apart = c.apart;
            base = base;
          },
        ))
        (alike.1 (inr room))

    pub steps_back : (from : ℕ) (steps : List Step)
        → AreSteps terms q (rows_times q rows) from steps → AreSteps terms (pos 1) rows from steps
    steps_back from [] h = tt
    steps_back from (s ∷ steps) h = (step_back from s h.0, steps_back s.to steps h.1)

  -- a move along steps
  change_times : (from : ℕ) (steps : List Step) (i e : ℕ) (a : ℤ)
      → change_at from steps i e (q *ℤ a) ≡ (q *ℤ change_at from steps i e a)
  change_times from [] i e a = sym (*ℤ-zero q)
  change_times from (s ∷ steps) i e a =
      rw (one (nat_eq s.term i) (nat_eq from e) (nat_eq s.to e), change_times s.to steps i e a)
      (sym (times-add q (if nat_eq s.term i then
      ((if nat_eq from e then a else pos 0) -ℤ (if nat_eq s.to e then a else pos 0)) else pos 0)
      (change_at s.to steps i e a))) where
        one : (b u v : Bool)
            → (if b then ((if u then (q *ℤ a) else pos 0) -ℤ (if v then (q *ℤ a) else pos 0)) else
            pos 0) ≡ (q *ℤ (if b then ((if u then a else pos 0) -ℤ (if v then a else pos 0)) else
            pos 0))
        one true u v = rw (part_times q u a, part_times q v a)
            (sym (times-sub q (if u then a else pos 0) (if v then a else pos 0)))
        one false u v = sym (*ℤ-zero q)

  pub move_times : (terms : List Meaning) (rows after : List (List ℤ)) (first : ℕ)
      (steps : List Step) (a : ℤ) → IsWalkMove terms rows first steps a after
      → IsWalkMove terms (rows_times q rows) first steps (q *ℤ a) (rows_times q after)
  move_times terms rows after first steps a m = record {
    same_count = length-map after (row_times q) ∙ m.same_count
        ∙ sym (length-map rows (row_times q));
    same_lengths = λ i. long after i ∙ m.same_lengths i ∙ sym (long rows i);
    changed = λ i j l.
        let e = get_or (term_at terms i).places j 0 in
        let l' : j < length (base_at rows i) = subst (λ k. j < k) (long rows i) l in
        at after i j ∙ ap (λ z. q *ℤ z) (m.changed i j l')
        ∙ times-add q (get_or (base_at rows i) j (pos 0)) (change_at first steps i e a)
        ∙ ap (λ z. z +ℤ (q *ℤ change_at first steps i e a)) (sym (at rows i j))
        ∙ ap (λ z. get_or (base_at (rows_times q rows) i) j (pos 0) +ℤ z)
        (sym (change_times first steps i e a));
  } where
    long : (rows : List (List ℤ)) (i : ℕ)
        → length (base_at (rows_times q rows) i) ≡ length (base_at rows i)
    long rows i = ap length (row_at rows i) ∙ length-map (base_at rows i) (λ b. q *ℤ b)

    at : (rows : List (List ℤ)) (i j : ℕ)
        → get_or (base_at (rows_times q rows) i) j
        (pos 0) ≡ (q *ℤ get_or (base_at rows i) j (pos 0))
    at rows i j = ap (λ y. get_or y j (pos 0)) (row_at rows i) ∙ number_at q (base_at rows i) j
