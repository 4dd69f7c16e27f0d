-- What an edge may get is told by one test. A part with an edge has the ends of that edge, so the
-- test of one of them leaves out an end of the part, and no test leaves out more than one.
use Rattle.std.proofs.Common.{◌≡◌, ◌≢◌, ◌⊎◌, ℕ, suc, ◌<◌, ◌≤◌, Bool, true, false, not, ◌&&◌, List, [], ◌∷◌, length, get_or, set, nat_eq, ℤ, pos, ◌+ℤ◌, ◌*ℤ◌, ◌≤ℤ◌, if◌then◌else◌, refl, sym, ap, ◌∙◌, arith, inl, inr, ⊎_elim, length-set}
use Rattle.std.proofs.lemmas.Bool.{cases_eq, cases_Bool, eq-eqb, and_parts, and_from, false≢true}
use Rattle.std.proofs.lemmas.Int.{ints}
use Rattle.std.proofs.Math.IntN.{*ℤ-zero}
use Rattle.sfm_spec.specs.Sets.{Has, sum_over}
use Rattle.sfm_spec.specs.Terms.{exchanged}
use Rattle.sfm_spec.specs.Kinds.{Edge}
use Rattle.sfm_spec.proofs.Scaled.{times-mono}
use Rattle.sfm_spec.proofs.Sums.{share, sum_over-set, sum_over-exchanged}
use Rattle.sfm_rank.proofs.Members.{has_place}
use Rattle.sfm_matroid.specs.Counting.{eqb_apart, count-into}
use Rattle.sfm_graphic.specs.Graphs.{edge_at, EndsBelow}
use Rattle.sfm_graphic.specs.Cuts.{touches, ends_but, IsWithinEnds}
use Rattle.sfm_graphic.specs.Numbered.{IsEndOf, IsTail}
use Rattle.sfm_graphic.proofs.CutForms.{touches-ends}

-- no part without u has more than before
abbrev pub IsLessWithout : ℕ → List ℤ → List ℤ → Type 0
IsLessWithout u x y = (s : List Bool) → length s ≡ length x → get_or s u false ≡ false
    → sum_over s y ≤ℤ sum_over s x

-- a part has a member, or its sum is 0
member_or_none : (s : List Bool) → ((e : ℕ) × Has s e) ⊎ ((x : List ℤ) → sum_over s x ≡ pos 0)
member_or_none [] = inr (λ x. refl)
member_or_none (true ∷ s) = inl (0, refl)
member_or_none (false ∷ s) = ⊎_elim (λ (e, has). inl (suc e, has)) (λ none. inr (at none))
    (member_or_none s) where
      at : ((x : List ℤ) → sum_over s x ≡ pos 0) → (x : List ℤ) → sum_over (false ∷ s) x ≡ pos 0
      at none [] = refl
      at none (y ∷ x) = let r = none x in omega (arith, ints, r)

-- parts with u and without e have no more than in z
abbrev pub IsLessBetween : ℕ → ℕ → List ℤ → List ℤ → Type 0
IsLessBetween u e z y = (s : List Bool) → length s ≡ length z → Has s u → get_or s e false ≡ false
    → sum_over s y ≤ℤ sum_over s z

module _ (edges : List Edge) (m : ℕ) (below : EndsBelow edges m) where
  pub end_below : (e r : ℕ) → e < length edges → IsEndOf edges e r → r < m
  end_below e r le end = ⊎_elim (λ t. rw t (below e le).0) (λ h. rw h (below e le).1) end

  -- an edge of a part has its ends there
  end_touched : (e r : ℕ) → e < length edges → IsEndOf edges e r → (s : List Bool) → Has s e
      → touches edges s r ≡ true
  end_touched e r le end s has =
      let t = touches-ends edges s e le has in ⊎_elim (λ same. rw same t.0) (λ same. rw same t.1)
      end

  -- a part that has r has no fewer ends but another
  pub ends-least : (r : ℕ) → r < m → (t : ℕ) (s : List Bool) → touches edges s r ≡ true
      → ends_but edges m r s ≤ ends_but edges m t s
  ends-least r lr t s touched = count-into m m (λ v. touches edges s v && not (nat_eq v r))
      (λ v. touches edges s v && not (nat_eq v t)) (λ v. if nat_eq v t then r else v)
      (λ w. if nat_eq w r then t else w) (λ v lt p. into v lt p (cases_eq v t)) where
        Into : ℕ → ℕ → Type 0
        Into v f = (f < m) × ((touches edges s f && not (nat_eq f t)) ≡ true)
            × ((if nat_eq f r then t else f) ≡ v)

        into : (v : ℕ) → v < m → (touches edges s v && not (nat_eq v r)) ≡ true → (v ≡ t) ⊎ (v ≢ t)
            → Into v (if nat_eq v t then r else v)
        into v lt p (inl same) =
            let (has, out) = and_parts (touches edges s v) (not (nat_eq v r)) p in
            let ne : r ≢ t = λ e. false≢true (rw (eq-eqb v r (same ∙ sym e)) at out) in
            rw (eq-eqb v t same) (
              lr,
              and_from (touches edges s r) (not (nat_eq r t)) touched
                  (ap not (eqb_apart r t ne)),
              rw (eq-eqb r r refl) (sym same),
            )
        into v lt p (inr ne) =
            let (has, out) = and_parts (touches edges s v) (not (nat_eq v r)) p in
            let other : v ≢ r = λ e. false≢true (rw (eq-eqb v r e) at out) in
            rw (eqb_apart v t ne) (
              lt,
              and_from (touches edges s v) (not (nat_eq v t)) has
                  (ap not (eqb_apart v t ne)),
              rw (eqb_apart v r other) refl,
            )

  -- so its test asks no less of the part than another
  pub least_asked : (c : ℤ) → pos 0 ≤ℤ c → (y : List ℤ) (e r : ℕ) → e < length edges
      → IsEndOf edges e r → IsWithinEnds edges m c y r → (t : ℕ) (s : List Bool)
      → length s ≡ length edges → Has s e → sum_over s y ≤ℤ (c *ℤ pos (ends_but edges m t s))
  least_asked c low y e r le end here t s ks has =
      let h = here s ks in
      let n = ends-least r (end_below e r le end) t s (end_touched e r le end s has) in
      let up = times-mono c (pos (ends_but edges m r s)) (pos (ends_but edges m t s)) low
      (omega (arith, ints, n)) in
      omega (arith, ints, h, up)

  -- what the test of an end of e allows u, all tests do, if parts with u and without e have little
  -- enough
  pub end_enough : (c : ℤ) → pos 0 ≤ℤ c → (x y z : List ℤ) → length x ≡ length edges
      → length z ≡ length edges → (u e r : ℕ) → e < length edges → IsEndOf edges e r
      → IsLessWithout u x y → IsLessBetween u e z y
      → ((t : ℕ) → t < m → IsWithinEnds edges m c x t)
      → ((t : ℕ) → t < m → IsWithinEnds edges m c z t) → IsWithinEnds edges m c y r → (t : ℕ)
      → t < m → IsWithinEnds edges m c y t
  end_enough c low x y z sized zsized u e r le end less between all more here t lt s ks = ⊎_elim
      (λ has. ⊎_elim
      (λ both. least_asked c low y e r le end here t s ks both)
      (λ out. let h = more t lt s ks in let l = between s (ks ∙ sym zsized) has
      out in omega (arith, ints, h, l))
      (cases_Bool (get_or s e false)))
      (λ out. let h = all t lt s ks in let l = less s (ks ∙ sym sized)
      out in omega (arith, ints, h, l))
      (cases_Bool (get_or s u false))

  -- the tests of the tails are enough
  pub tails_enough : (c : ℤ) → pos 0 ≤ℤ c → (x : List ℤ)
      → ((a : ℕ) → a < m → IsTail edges a → IsWithinEnds edges m c x a) → (t : ℕ) → t < m
      → IsWithinEnds edges m c x t
  tails_enough c low x within t lt s ks = ⊎_elim
      (λ (e, has). let p = has_place s e has in let le : e < length
      edges = omega (arith, p, ks) in let tail = (edge_at edges e).tail in least_asked c low x e
      tail le (inl refl) (within tail (below e le).0 (e, le, refl)) t s ks has)
      (λ none. let z = none x in let up = times-mono c (pos 0) (pos (ends_but edges m t s)) low
      (omega (arith, ints)) in let n = *ℤ-zero c in omega (arith, ints, z, up, n))
      (member_or_none s)

-- what v gives, no part without u gets
pub less_exchanged : (x : List ℤ) (u v : ℕ) (a : ℤ) → u < length x → v < length x → u ≢ v
    → pos 0 ≤ℤ a → IsLessWithout u x (exchanged x u v a)
less_exchanged x u v a xu xv ne low s ks out =
    let e = sum_over-exchanged s x u v a ks xu xv ne in
    let su : share s u a ≡ pos 0 = rw out refl in
    let sv = at (get_or s v false) in
    omega (arith, ints, e, su, sv) where
      at : (b : Bool) → pos 0 ≤ℤ (if b then a else pos 0)
      at true = low
      at false = omega (arith, ints)

-- nor any part more than one, where one is given
pub more_exchanged : (x : List ℤ) (u v : ℕ) → u < length x → v < length x → u ≢ v → (s : List Bool)
    → length s ≡ length x → sum_over s (exchanged x u v (pos 1)) ≤ℤ (sum_over s x +ℤ pos 1)
more_exchanged x u v xu xv ne s ks =
    let e = sum_over-exchanged s x u v (pos 1) ks xu xv ne in
    let su = most (get_or s u false) in
    let sv = least (get_or s v false) in
    omega (arith, ints, e, su, sv) where
      most : (b : Bool) → (if b then pos 1 else pos 0) ≤ℤ pos 1
      most true = omega (arith, ints)
      most false = omega (arith, ints)

      least : (b : Bool) → pos 0 ≤ℤ (if b then pos 1 else pos 0)
      least true = omega (arith, ints)
      least false = omega (arith, ints)

pub less_raised : (x : List ℤ) (u v : ℕ) (r : ℤ) → u < length x → v < length x
    → pos 0 ≤ℤ get_or x v (pos 0) → IsLessWithout u x (set (set x v (pos 0)) u r)
less_raised x u v r xu xv low s ks out =
    let l = length-set x v (pos 0) in
    let one = sum_over-set s x v (pos 0) ks xv in
    let two = sum_over-set s (set x v (pos 0)) u r (ks ∙ sym l) (omega (arith, xu, l)) in
    let su : share s u r ≡ pos 0 = rw out refl in
    let sw : share s u (get_or (set x v (pos 0)) u (pos 0)) ≡ pos 0 = rw out refl in
    let sv = at (get_or s v false) in
    let sz = zero_at (get_or s v false) in
    omega (arith, ints, one, two, su, sw, sv, sz) where
      at : (b : Bool) → pos 0 ≤ℤ (if b then get_or x v (pos 0) else pos 0)
      at true = low
      at false = omega (arith, ints)

      zero_at : (b : Bool) → (if b then pos 0 else pos 0) ≡ pos 0
      zero_at true = refl
      zero_at false = refl
