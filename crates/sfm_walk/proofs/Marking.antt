-- Where z is the marks of places, the walks that join are those from the one place to any of the
-- others.
use Rattle.std.proofs.Common.{◌≡◌, ◌⊎◌, ℕ, suc, ◌*◌, ◌^◌, ◌<◌, ◌≤◌, Bool, true, false, List, [], ◌∷◌, length, map, get_or, length-set, get_or-set_same, get_or-set_other, nat_eq, ℤ, pos, neg_ℤ, ◌≤ℤ◌, ◌<ℤ◌, if◌then◌else◌, refl, sym, subst, ◌∙◌, arith, inl, inr}
use Rattle.std.proofs.lemmas.Bool.{cases_eq, eq-eqb, ne_eqb}
use Rattle.std.proofs.lemmas.Int.{ints}
use Rattle.std.proofs.lemmas.List.{length-map, get_or-map}
use Rattle.sfm_spec.specs.Sets.{Has, magnitudes}
use Rattle.sfm_spec.specs.Bounds.{IsAtMost}
use Rattle.sfm_spec.specs.Families.{Meaning, AreTerms, AreBases, rest_at}
use Rattle.sfm_spec.specs.Walks.{Step, IsWalk, IsShortest, IsShortestTo, IsOver, Joins, last_of}
use Rattle.sfm_spec.proofs.Labels.{walk_ends_below}
use Rattle.sfm_spec.proofs.Walks.{has_below}
use Rattle.sfm_law.specs.Rest.{IsRest}
use Rattle.sfm_walk.specs.Marks.{marks_of}

-- 1 at a place of the set, -1 at the place from, and 0 elsewhere
abbrev pub mark_at : List Bool → ℕ → ℕ → ℤ
mark_at to from e = if get_or to e false then pos 1 else
    (if nat_eq e from then neg_ℤ (pos 1) else pos 0)

-- the marks of all places
pub record AreMarks (to : List Bool) (from : ℕ) (z : List ℤ) : Type 0 where
  pub places : length z ≡ length to
  pub exact : (e : ℕ) → e < length z → get_or z e (pos 0) ≡ mark_at to from e

-- magnitudes add to no more than the greatest for each entry
magnitudes_by : (m : ℕ) (x : List ℤ) → ((e : ℕ) → e < length x → IsAtMost m (get_or x e (pos 0)))
    → magnitudes x ≤ℤ pos (m * length x)
magnitudes_by m [] h = omega (arith, ints)
magnitudes_by m (a ∷ x) h =
    let r = magnitudes_by m x (λ e l. h (suc e) (omega (arith, l))) in
    let o : IsAtMost m a = h 0 (omega arith) in
    omega (arith, ints, r, o.low, o.high)

-- a mark is 1 at the set alone, and below 0 at the place from alone
mark_over : (to : List Bool) (from e : ℕ) → Has to e → mark_at to from e ≡ pos 1
mark_over to from e has = rw has refl

mark_over_back : (to : List Bool) (from e : ℕ) → pos 0 <ℤ mark_at to from e → Has to e
mark_over_back to from e over = at (get_or to e false) refl (cases_eq e from) where
  at : (b : Bool) → get_or to e false ≡ b → (e ≡ from) ⊎ ((e ≡ from) → ⊥) → Has to e
  at true is c = is
  at false is (inl same) = let o = rw (is, eq-eqb e from same) at
      over in absurd (omega (arith, ints, o))
  at false is (inr other) = let o = rw (is, ne_eqb e from other) at
      over in absurd (omega (arith, ints, o))

mark_under : (to : List Bool) (from : ℕ) → (Has to from → ⊥) → mark_at to from from ≡ neg_ℤ (pos 1)
mark_under to from apart = at (get_or to from false) refl where
  at : (b : Bool) → get_or to from false ≡ b → mark_at to from from ≡ neg_ℤ (pos 1)
  at true is = absurd (apart is)
  at false is = rw (is, eq-eqb from from refl) refl

mark_under_back : (to : List Bool) (from e : ℕ) → mark_at to from e <ℤ pos 0 → e ≡ from
mark_under_back to from e under = at (get_or to e false) refl (cases_eq e from) where
  at : (b : Bool) → get_or to e false ≡ b → (e ≡ from) ⊎ ((e ≡ from) → ⊥) → e ≡ from
  at true is c = let o = rw is at under in absurd (omega (arith, ints, o))
  at false is (inl same) = same
  at false is (inr other) = let o = rw (is, ne_eqb e from other) at
      under in absurd (omega (arith, ints, o))

mark_small : (to : List Bool) (from e : ℕ) → IsAtMost 1 (mark_at to from e)
mark_small to from e = at (get_or to e false) refl (cases_eq e from) where
  at : (b : Bool) → get_or to e false ≡ b → (e ≡ from) ⊎ ((e ≡ from) → ⊥)
      → IsAtMost 1 (mark_at to from e)
  at true is c = rw is (record { low = omega (arith, ints); high = omega (arith, ints) })
  at false is (inl same) = rw (is, eq-eqb e from same)
      (record { low = omega (arith, ints); high = omega (arith, ints) })
  at false is (inr other) = rw (is, ne_eqb e from other)
      (record { low = omega (arith, ints); high = omega (arith, ints) })

-- marks are small
pub marks_small : (to : List Bool) (from : ℕ) (z : List ℤ) → AreMarks to from z → length to ≤ 256
    → magnitudes z ≤ℤ pos (10 ^ 36)
marks_small to from z h few =
    let m = magnitudes_by 1 z (λ e l. rw (h.exact e l) (mark_small to from e)) in
    let p = h.places in
    omega (arith, ints, m, p, few)

-- there is a mark for each place
pub marks_count : (to : List Bool) (from : ℕ) → length (marks_of to from) ≡ length to
marks_count to from = length-set (map (λ b. if b then pos 1 else pos 0) to) from (neg_ℤ (pos 1))
    ∙ length-map to (λ b. if b then pos 1 else pos 0)

-- the marks of a place that the set has not
pub are_marks : (to : List Bool) (from : ℕ) → from < length to → (Has to from → ⊥)
    → AreMarks to from (marks_of to from)
are_marks to from lf apart = record {
  places = places;
  exact = λ e l. exact e (rw places at l) (cases_eq e from);
} where
  truths : List ℤ
  truths = map (λ b. if b then pos 1 else pos 0) to

  count : length truths ≡ length to
  count = length-map to (λ b. if b then pos 1 else pos 0)

  places : length (marks_of to from) ≡ length to
  places = marks_count to from

  exact : (e : ℕ) → e < length to → (e ≡ from) ⊎ ((e ≡ from) → ⊥)
      → get_or (marks_of to from) e (pos 0) ≡ mark_at to from e
  exact e l (inl same) =
      let m = get_or-set_same truths from (neg_ℤ (pos 1)) (pos 0) (rw count lf) in
      rw same (m ∙ sym (mark_under to from apart))
  exact e l (inr other) =
      let m = get_or-set_other truths from e (neg_ℤ (pos 1)) (pos 0) other in
      let t = get_or-map (λ b. if b then pos 1 else pos 0) to e false (pos 0) l in
      rw (ne_eqb e from other) (m ∙ t)

module _ (terms : List Meaning) (rows : List (List ℤ)) (n : ℕ) (q : ℤ) (low : pos 0 ≤ℤ q)
    (fit : AreTerms n terms) (bases : AreBases q terms rows) (to : List Bool) (from : ℕ)
    (z shift : List ℤ) (count : length to ≡ n) (lf : from < n) (apart : Has to from → ⊥)
    (marks : AreMarks to from z) (shifted : IsRest terms z rows shift) where
  -- z is the residual at the shift that is the residual at z
  pub turned : IsRest terms shift rows z
  turned = record {
    places = sym shifted.places;
    exact = λ e l. let s = shifted.exact e (rw shifted.places l) in omega (arith, ints, s);
  }

  mark : (e : ℕ) → e < n → rest_at terms rows shift e ≡ mark_at to from e
  mark e l =
      let lz : e < length z = rw (marks.places ∙ count) l in
      sym (turned.exact e lz) ∙ marks.exact e lz

  over : (e : ℕ) → Has to e → IsOver terms rows shift e
  over e has =
      let l : e < n = rw (← count) (has_below to e has) in
      let m = mark e l ∙ mark_over to from e has in
      omega (arith, ints, m)

  over_back : (e : ℕ) → e < n → IsOver terms rows shift e → Has to e
  over_back e l o = let m = mark e l in mark_over_back to from e (omega (arith, ints, m, o))

  -- a walk to one of the places joins
  pub none_leads : ((first : ℕ) (steps : List Step) → Joins terms q shift rows first steps → ⊥)
      → (steps : List Step) → IsWalk terms q rows from steps → Has to (last_of from steps) → ⊥
  none_leads none steps walk has =
      let m = mark from lf ∙ mark_under to from apart in
      none from steps (record {
        walk = walk;
        below = omega (arith, ints, m);
        above = over (last_of from steps) has;
      })

  -- a shortest joining walk is a shortest one to any of the places
  pub one_leads : (first : ℕ) (steps : List Step) → first < n
      → IsShortest terms q shift rows first steps → (first ≡ from)
      × IsShortestTo terms q rows (Has to) from steps
  one_leads first steps l h =
      let s = h.shortest in
      let b = h.below in
      let m = mark first l in
      let same = mark_under_back to from first (omega (arith, ints, m, b)) in
      let one : IsShortestTo terms q rows (Has to) first steps = record {
        walk = s.walk;
        arrives = over_back (last_of first steps)
            (walk_ends_below terms rows n q low fit bases first steps s.walk) s.arrives;
        fewest = λ other walk has. s.fewest other walk (over (last_of first other) has);
      } in
      (same, subst (λ k. IsShortestTo terms q rows (Has to) k steps) same one)
