-- Members of a set that get no slot of their own: some of the set have, with the slots of their
-- entries, no more slots than get used. So who has slots of their own is told by the slots of
-- parts. Textbook: Schrijver, Combinatorial Optimization, section 22 (Hall's theorem with a defect,
-- after Ore).
use Rattle.std.proofs.Common.{◌≡◌, ◌≢◌, ◌⊎◌, ℕ, zero, suc, ◌+◌, ◌<◌, ◌≤◌, Bool, true, false, not, ◌&&◌, List, [], ◌∷◌, length, get_or, set, nat_eq, refl, sym, ap, subst, ◌∙◌, arith, inl, inr, ⊎_elim, length-set}
use Rattle.std.specs.List.{Contains}
use Rattle.std.proofs.lemmas.Bool.{false≢true, cases_eq, cases_Bool, eq-eqb, eqb-true, and_parts, and_from, or_cases, or_left, or_right, not-true}
use Rattle.std.proofs.lemmas.List.{length-replicate}
use Rattle.sfm_spec.specs.Sets.{empty_set, Has, IsWithin, size}
use Rattle.sfm_spec.specs.Kinds.{IsMatching, IsMatchable}
use Rattle.sfm_spec.proofs.Sizes.{size_below_length, size_grows, within_tail}
use Rattle.sfm_spec.proofs.Where.{size-cons}
use Rattle.sfm_rank.proofs.Members.{has_or_out, has_place, has_set, nothing, set_has, set_within, size-in}
use Rattle.sfm_matroid.specs.Counts.{count_below, unit_of}
use Rattle.sfm_matroid.specs.Slots.{listed, lists_slot, slots_count}
use Rattle.sfm_matroid.specs.Counting.{chosen, chosen_is, count-into, count-most, count-split, size-count, some_or_none}
use Rattle.sfm_matroid.specs.Matchings.{IsMatchedBy, matchable_from, matched_by, matching-matroid, redirected, redirected-here, redirected-other}

-- ---- the slots of a set

lists_from : (slots : List ℕ) (v : ℕ) → Contains slots v → lists_slot slots v ≡ true
lists_from [] v (i, lt, is) = absurd (omega (arith, lt))
lists_from (a ∷ slots) v (zero, lt, is) = or_left (nat_eq a v) (lists_slot slots v) (eq-eqb a v is)
lists_from (a ∷ slots) v (suc i, lt, is) =
    or_right (nat_eq a v) (lists_slot slots v) (lists_from slots v (i, omega arith, is))

lists_to : (slots : List ℕ) (v : ℕ) → lists_slot slots v ≡ true → Contains slots v
lists_to [] v h = absurd (false≢true h)
lists_to (a ∷ slots) v h = ⊎_elim (λ here. (0, omega arith, eqb-true a v here))
    (λ later. let (i, lt, is) = lists_to slots v later in (suc i, omega arith, is))
    (or_cases (nat_eq a v) (lists_slot slots v) h)

pub listed_from : (entries : List (List ℕ)) (s : List Bool) (e v : ℕ) → Has s e
    → Contains (get_or entries e []) v → listed entries s v ≡ true
listed_from [] s e v has (i, lt, is) = absurd (omega (arith, lt))
listed_from (slots ∷ entries) [] e v has c = absurd (false≢true has)
listed_from (slots ∷ entries) (b ∷ s) zero v has c =
    or_left (b && lists_slot slots v) (listed entries s v)
    (and_from b (lists_slot slots v) has (lists_from slots v c))
listed_from (slots ∷ entries) (b ∷ s) (suc e) v has c =
    or_right (b && lists_slot slots v) (listed entries s v) (listed_from entries s e v has c)

pub listed_to : (entries : List (List ℕ)) (s : List Bool) (v : ℕ) → listed entries s v ≡ true
    → (e : ℕ) × Has s e × Contains (get_or entries e []) v
listed_to [] s v h = absurd (false≢true h)
listed_to (slots ∷ entries) [] v h = absurd (false≢true h)
listed_to (slots ∷ entries) (b ∷ s) v h = ⊎_elim
    (λ here. let (hb, l) = and_parts b (lists_slot slots v) here in (0, hb, lists_to slots v l))
    (λ later. let (e, has, c) = listed_to entries s v later in (suc e, has, c))
    (or_cases (b && lists_slot slots v) (listed entries s v) h)

-- ---- what of a set is not in another

abbrev pub minus : List Bool → List Bool → List Bool
minus [] r = []
minus (a ∷ s) [] = a ∷ s
minus (a ∷ s) (b ∷ r) = (a && not b) ∷ minus s r

length-minus : (s r : List Bool) → length (minus s r) ≡ length s
length-minus [] r = refl
length-minus (a ∷ s) [] = refl
length-minus (a ∷ s) (b ∷ r) =
    let l : length (minus s r) ≡ length s = length-minus s r in omega (arith, l)

minus-at : (s r : List Bool) (e : ℕ)
    → get_or (minus s r) e false ≡ (get_or s e false && not (get_or r e false))
minus-at [] r e = refl
minus-at (a ∷ s) [] e = plain (get_or (a ∷ s) e false) where
  plain : (b : Bool) → b ≡ (b && true)
  plain true = refl
  plain false = refl
minus-at (a ∷ s) (b ∷ r) zero = refl
minus-at (a ∷ s) (b ∷ r) (suc e) = minus-at s r e

size-minus : (s r : List Bool) → length s ≡ length r → IsWithin r s
    → size s ≡ size (minus s r) + size r
size-minus [] [] same within = refl
size-minus [] (b ∷ r) same within = absurd (omega (arith, same))
size-minus (a ∷ s) [] same within = absurd (omega (arith, same))
size-minus (a ∷ s) (b ∷ r) same within =
    at a b (within 0) (size-minus s r (omega arith) (within_tail b a r s within)) (size-cons a s)
    (size-cons (a && not b) (minus s r)) (size-cons b r) where
      at : (a b : Bool) → (b ≡ true → a ≡ true) → size s ≡ size (minus s r) + size r
          → size (a ∷ s) ≡ unit_of a + size s
          → size ((a && not b) ∷ minus s r) ≡ unit_of (a && not b) + size (minus s r)
          → size (b ∷ r) ≡ unit_of b + size r
          → size (a ∷ s) ≡ size ((a && not b) ∷ minus s r) + size (b ∷ r)
      at true true w h c d e = omega (arith, h, c, d, e)
      at true false w h c d e = omega (arith, h, c, d, e)
      at false true w h c d e = absurd (false≢true (w refl))
      at false false w h c d e = omega (arith, h, c, d, e)

-- ---- a search from the members without a slot

module _ (k m : ℕ) (entries : List (List ℕ)) (s i : List Bool) (f : ℕ → ℕ) (ks : length s ≡ k)
    (ki : length i ≡ k) (within : IsWithin i s) (matched : IsMatchedBy entries i f) where
  -- i with u and without e
  abbrev pub IsIn : ℕ → ℕ → ℕ → Type 0
  IsIn u e j = (j ≢ e) × ((j ≡ u) ⊎ Has i j)

  -- e can give way to a member of s outside i: the others have slots of their own, of those that i
  -- has by f, and the same where r is not
  pub record CanGiveWay (r : List Bool) (e : ℕ) : Type 0 where
    pub u : ℕ
    pub wanted : Has s u
    pub outside : get_or i u false ≡ false
    pub by : ℕ → ℕ
    pub own : (j : ℕ) → IsIn u e j → Contains (get_or entries j []) (by j)
    pub distinct : (c d : ℕ) → IsIn u e c → IsIn u e d → by c ≡ by d → c ≡ d
    pub same : (j : ℕ) → Has i j → get_or r j false ≡ false → by j ≡ f j
    pub used : (j : ℕ) → IsIn u e j → (p : ℕ) × Has i p × (f p ≡ by j)

  pub record IsReached (r : List Bool) : Type 0 where
    pub places : length r ≡ k
    pub inside : IsWithin r s
    pub holds : (e : ℕ) → Has s e → get_or i e false ≡ false → Has r e
    pub movable : (e : ℕ) → Has r e → CanGiveWay r e

  -- a member of s can be taken to i
  abbrev pub Grows : Type 0
  Grows = (u : ℕ) × Has s u × (get_or i u false ≡ false) × IsMatchable entries (set i u true)

  -- the slots of r are all used by members of both r and i
  pub record IsFull (r : List Bool) : Type 0 where
    pub places : length r ≡ k
    pub inside : IsWithin r s
    pub holds : (e : ℕ) → Has s e → get_or i e false ≡ false → Has r e
    pub few : slots_count entries m r ≤ count_below k (λ p. get_or i p false && get_or r p false)

  first_reached : IsReached (minus s i)
  first_reached = record {
    places = length-minus s i ∙ ks;
    inside = λ e has. (parts e has).0;
    holds = λ e hs out. minus-at s i e ∙ rw (hs, out) refl;
    movable = λ e has. let (hs, out) = parts e has in
        let old : (j : ℕ) → IsIn e e j → Has i j = λ j (ne, c). ⊎_elim (λ same. absurd (ne same))
        (λ h. h) c in
        record {
          u = e;
          wanted = hs;
          outside = out;
          by = f;
          own = λ j h. matched.own j (old j h);
          distinct = λ c d hc hd. matched.distinct c d (old c hc) (old d hd);
          same = λ j hj out. refl;
          used = λ j h. (j, old j h, refl);
        };
  } where
    parts : (e : ℕ) → Has (minus s i) e → Has s e × (get_or i e false ≡ false)
    parts e has = let (hs, out) = and_parts (get_or s e false) (not (get_or i e false))
        (sym (minus-at s i e) ∙ has) in (hs, not-true (get_or i e false) out)

  -- the slot v of e for e, where no other of i with u and without e has it
  pub raised : (r : List Bool) (e v : ℕ) (h : CanGiveWay r e) → Contains (get_or entries e []) v
      → ((p : ℕ) → Has i p → f p ≢ v) → Grows
  raised r e v h c free = (
    h.u,
    h.wanted,
    h.outside,
    matchable_from entries (set i h.u true) (redirected h.by e v)
        (record {
          own = own;
          distinct = λ a b ha hb same. both a b ha hb same (cases_eq a e)
              (cases_eq b e);
        }),
  ) where
    unused : (j : ℕ) → IsIn h.u e j → h.by j ≢ v
    unused j hj same = let (p, hp, is) = h.used j hj in free p hp (is ∙ same)

    own : (j : ℕ) → Has (set i h.u true) j → Contains (get_or entries j []) (redirected h.by e v j)
    own j has = ⊎_elim (λ (same : j ≡ e). rw (redirected-here h.by e v j same, same) c)
        (λ (ne : j ≢ e). rw (redirected-other h.by e v j ne) (h.own j (ne, has_set i h.u j has)))
        (cases_eq j e)

    both : (a b : ℕ) → Has (set i h.u true) a → Has (set i h.u true) b
        → redirected h.by e v a ≡ redirected h.by e v b → (a ≡ e) ⊎ (a ≢ e) → (b ≡ e) ⊎ (b ≢ e)
        → a ≡ b
    both a b ha hb same (inl ae) (inl be) = ae ∙ sym be
    both a b ha hb same (inl ae) (inr nb) =
        absurd (unused b (nb, has_set i h.u b hb)
        (sym (redirected-other h.by e v b nb) ∙ (sym same ∙ redirected-here h.by e v a ae)))
    both a b ha hb same (inr na) (inl be) =
        absurd (unused a (na, has_set i h.u a ha)
        (sym (redirected-other h.by e v a na) ∙ (same ∙ redirected-here h.by e v b be)))
    both a b ha hb same (inr na) (inr nb) =
        h.distinct a b (na, has_set i h.u a ha) (nb, has_set i h.u b hb)
        (sym (redirected-other h.by e v a na) ∙ (same ∙ redirected-other h.by e v b nb))

  -- the slot of p for e, so that p can give way
  moved : (r : List Bool) (e p : ℕ) → Has r e → get_or r p false ≡ false → Has i p
      → Contains (get_or entries e []) (f p) → CanGiveWay r e → CanGiveWay (set r p true) p
  moved r e p he out hp c h = record {
    u = h.u;
    wanted = h.wanted;
    outside = h.outside;
    by = redirected h.by e (f p);
    own = λ j (np, hj). ⊎_elim (λ (same : j ≡ e). rw (redirected-here h.by e (f p) j same, same) c)
        (λ (ne : j ≢ e). rw (redirected-other h.by e (f p) j ne) (h.own j (ne, hj))) (cases_eq j e);
    distinct = λ a b ha hb same. both a b ha hb same (cases_eq a e) (cases_eq b e);
    same = λ j hj oj.
        let old : get_or r j false ≡ false = has_or_out r j
        (λ hr. false≢true (sym oj ∙ set_has r p j hr)) in
        redirected-other h.by e (f p) j
        (λ same. false≢true (sym old ∙ (ap (λ n. get_or r n false) same ∙ he)))
        ∙ h.same j hj old;
    used = λ j (np, hj). ⊎_elim (λ (same : j ≡ e).
        (p, hp, sym (redirected-here h.by e (f p) j same)))
        (λ (ne : j ≢ e). let (q, hq, is) = h.used j
        (ne, hj) in (q, hq, is ∙ sym (redirected-other h.by e (f p) j ne))) (cases_eq j e);
  } where
    ne : p ≢ e
    ne same = false≢true (sym out ∙ (ap (λ n. get_or r n false) same ∙ he))

    unused : (j : ℕ) → j ≢ p → IsIn h.u e j → h.by j ≢ f p
    unused j np hj same = np (h.distinct j p hj (ne, inr hp) (same ∙ sym (h.same p hp out)))

    both : (a b : ℕ) → IsIn h.u p a → IsIn h.u p b
        → redirected h.by e (f p) a ≡ redirected h.by e (f p) b → (a ≡ e) ⊎ (a ≢ e) → (b ≡ e)
        ⊎ (b ≢ e) → a ≡ b
    both a b ha hb same (inl ae) (inl be) = ae ∙ sym be
    both a b ha hb same (inl ae) (inr nb) =
        absurd (unused b hb.0 (nb, hb.1)
        (sym (redirected-other h.by e (f p) b nb) ∙ (sym same ∙ redirected-here h.by e (f p) a ae)))
    both a b ha hb same (inr na) (inl be) =
        absurd (unused a ha.0 (na, ha.1)
        (sym (redirected-other h.by e (f p) a na) ∙ (same ∙ redirected-here h.by e (f p) b be)))
    both a b ha hb same (inr na) (inr nb) =
        h.distinct a b (na, ha.1) (nb, hb.1)
        (sym (redirected-other h.by e (f p) a na) ∙ (same ∙ redirected-other h.by e (f p) b nb))

  -- a member more
  reached_more : (r : List Bool) (e p : ℕ) → Has r e → get_or r p false ≡ false → Has i p
      → Contains (get_or entries e []) (f p) → IsReached r → IsReached (set r p true)
  reached_more r e p he out hp c h = record {
    places = length-set r p true ∙ h.places;
    inside = λ j hj. ⊎_elim (λ (same : j ≡ p). rw same (within p hp)) (λ old. h.inside j old)
        (has_set r p j hj);
    holds = λ j hs oj. set_has r p j (h.holds j hs oj);
    movable = λ j hj. ⊎_elim
        (λ (same : j ≡ p). rw same (moved r e p he out hp c (h.movable e he)))
        (λ old. let o = h.movable j old in record {
          u = o.u;
          wanted = o.wanted;
          outside = o.outside;
          by = o.by;
          own = o.own;
          distinct = o.distinct;
          same = λ q hq oq. o.same q hq
              (has_or_out r q (λ hr. false≢true (sym oq ∙ set_has r p q hr)));
          used = o.used;
        })
        (has_set r p j hj);
  }

  -- p is in both and has the slot v, or in i alone
  has_both : List Bool → ℕ → ℕ → Bool
  has_both r v p = (get_or i p false && get_or r p false) && nat_eq (f p) v

  has_slot : ℕ → ℕ → Bool
  has_slot v p = get_or i p false && nat_eq (f p) v

  -- a slot of r that no member of both has: i can grow, or r can
  turn : (r : List Bool) → IsReached r → IsFull r
      ⊎ (Grows ⊎ ((p : ℕ) × (get_or r p false ≡ false) × (p < k) × IsReached (set r p true)))
  unfolding has_both has_slot
  turn r h = at
      (some_or_none m (λ v. listed entries r v && not
      (has_both r v (chosen k (has_both r v))))) where
        at : ((v : ℕ) × (v < m)
            × ((listed entries r v && not (has_both r v (chosen k (has_both r v))))
            ≡ true)) ⊎ ((v : ℕ) → v < m
            → (listed entries r v && not (has_both r v (chosen k (has_both r v)))) ≡ false)
            → IsFull r ⊎ (Grows ⊎ ((p : ℕ) × (get_or r p false ≡ false) × (p < k)
            × IsReached (set r p true)))
        at (inl (v, lt, is)) =
            let (l, free) = and_parts (listed entries r v)
            (not (has_both r v (chosen k (has_both r v)))) is in
            let (e, he, c) = listed_to entries r v l in
            inr (by e he c (not-true (has_both r v (chosen k (has_both r v))) free)
            (some_or_none k (has_slot v))) where
              by : (e : ℕ) → Has r e → Contains (get_or entries e []) v
                  → has_both r v (chosen k (has_both r v)) ≡ false
                  → ((p : ℕ) × (p < k) × (has_slot v p ≡ true))
                  ⊎ ((p : ℕ) → p < k → has_slot v p ≡ false)
                  → Grows ⊎ ((p : ℕ) × (get_or r p false ≡ false) × (p < k)
                  × IsReached (set r p true))
              by e he c free (inl (p, lp, hit)) =
                  let (hp, same) = and_parts (get_or i p false) (nat_eq (f p) v) hit in
                  let fv : f p ≡ v = eqb-true (f p) v same in
                  let out : get_or r p false ≡ false = has_or_out r p
                  (λ hr. false≢true (sym free
                  ∙ (chosen_is k p (has_both r v) lp
                  (and_from (get_or i p false && get_or r p false) (nat_eq (f p) v)
                  (and_from (get_or i p false) (get_or r p false) hp hr) same)).1)) in
                  inr (p, out, lp, reached_more r e p he out hp (rw fv c) h)
              by e he c free (inr none) =
                  inl (raised r e v (h.movable e he) c
                  (λ p hp same. false≢true (sym
                  (none p (let l = has_place i p hp in omega (arith, l, ki)))
                  ∙ and_from (get_or i p false) (nat_eq (f p) v) hp (eq-eqb (f p) v same))))
        at (inr none) = inl (record {
          places = h.places;
          inside = h.inside;
          holds = h.holds;
          few = count-into m k (listed entries r) (λ p. get_or i p false && get_or r p false)
              (λ v. chosen k (has_both r v)) f (λ v lt l. found v l (none v lt));
        }) where
          hit_or_not : (a b : Bool) → a ≡ true → (a && not b) ≡ false → b ≡ true
          hit_or_not true true h out = refl
          hit_or_not true false h out = absurd (false≢true (sym out))
          hit_or_not false b h out = absurd (false≢true h)

          found : (v : ℕ) → listed entries r v ≡ true
              → (listed entries r v && not (has_both r v (chosen k (has_both r v)))) ≡ false
              → (chosen k (has_both r v) < k)
              × ((get_or i (chosen k (has_both r v)) false && get_or r (chosen k (has_both r v))
              false) ≡ true) × (f (chosen k (has_both r v)) ≡ v)
          found v l out =
              let p = chosen k (has_both r v) in
              let hit = hit_or_not (listed entries r v) (has_both r v (chosen k (has_both r v))) l
              out in
              let (two, same) = and_parts (get_or i p false && get_or r p false) (nat_eq (f p) v)
              hit in
              let (hp, hr) = and_parts (get_or i p false) (get_or r p false) two in
              let lp = has_place i p hp in
              (omega (arith, lp, ki), two, eqb-true (f p) v same)

  search : (fuel : ℕ) (r : List Bool) → IsReached r → k ≤ size r + fuel → Grows
      ⊎ ((r : List Bool) × IsFull r)
  search zero r h few = ⊎_elim
      (λ full. inr (r, full))
      (λ more. ⊎_elim
      (λ grows. inl grows)
      (λ (p, out, lt, next). let c = h.places in let z = size-in r p (omega (arith, lt, c))
      out in let b = size_below_length
      (set r p true) in let d = next.places in absurd (omega (arith, z, b, d, few)))
      more)
      (turn r h)
  search (suc fuel) r h few = ⊎_elim
      (λ full. inr (r, full))
      (λ more. ⊎_elim
      (λ grows. inl grows)
      (λ (p, out, lt, next). let c = h.places in let z = size-in r p (omega (arith, lt, c))
      out in search fuel (set r p true) next (omega (arith, z, few)))
      more)
      (turn r h)

  pub grows_or_full : Grows ⊎ ((r : List Bool) × IsFull r)
  grows_or_full = search k (minus s i) first_reached (omega arith)

  -- what of s is not in r, and the slots of r, are together no more than i
  pub full_few : (r : List Bool) → IsFull r → size (minus s r) + slots_count entries m r ≤ size i
  full_few r full =
      let a = size-count i in
      let b = size-count (minus s r) in
      let p = ap (λ n. count_below n (λ e. get_or i e false)) ki in
      let q = ap (λ n. count_below n (λ e. get_or (minus s r) e false)) (length-minus s r ∙ ks) in
      let split = count-split k (λ e. get_or i e false) (λ e. get_or r e false) in
      let few = full.few in
      let c = count-most k (λ e. get_or (minus s r) e false)
      (λ e. get_or i e false && not (get_or r e false)) (λ e lt has.
      let (hs, gone) = and_parts (get_or s e false) (not (get_or r e false))
      (sym (minus-at s r e) ∙ has) in
      let out = not-true (get_or r e false) gone in
      and_from (get_or i e false) (not (get_or r e false))
      (⊎_elim (λ hi. hi) (λ oi. absurd (false≢true (sym out ∙ full.holds e hs oi)))
      (cases_Bool (get_or i e false))) gone) in
      omega (arith, a, b, p, q, split, few, c)

-- ---- a greatest part with slots of its own

-- each slot is one of m
abbrev pub AreSlotsBelow : List (List ℕ) → ℕ → Type 0
AreSlotsBelow entries m = (e v : ℕ) → Contains (get_or entries e []) v → v < m

-- a part of s with slots of its own, as large as what of s is not in another part, and the slots of
-- that
pub record IsGreatest (entries : List (List ℕ)) (m : ℕ) (s b : List Bool) : Type 0 where
  pub places : length b ≡ length s
  pub inside : IsWithin b s
  pub matchable : IsMatchable entries b
  pub part : List Bool
  pub part_places : length part ≡ length s
  pub part_inside : IsWithin part s
  pub few : size (minus s part) + slots_count entries m part ≤ size b

module _ (k m : ℕ) (entries : List (List ℕ)) where
  -- a part cannot grow: it is greatest
  stays : (s i : List Bool) (ks : length s ≡ k) (ki : length i ≡ k) (within : IsWithin i s)
      (slots : List ℕ) (matched : IsMatching entries i slots) (r : List Bool)
      → IsFull k m entries s i (λ e. get_or slots e 0) ks ki within
      (matched_by entries i slots matched) r → (b : List Bool) × IsGreatest entries m s b
  stays s i ks ki within slots matched r full = (
    i,
    record {
      places = ki ∙ sym ks;
      inside = within;
      matchable = (slots, matched);
      part = r;
      part_places = full.places ∙ sym ks;
      part_inside = full.inside;
      few = full_few k m entries s i (λ e. get_or slots e 0) ks ki within
          (matched_by entries i slots matched) r full;
    },
  )

  greatest_from : (fuel : ℕ) (s i : List Bool) → length s ≡ k → length i ≡ k → IsWithin i s
      → IsMatchable entries i → k ≤ size i + fuel → (b : List Bool) × IsGreatest entries m s b
  greatest_from zero s i ks ki within (slots, matched) few = ⊎_elim
      (λ (u, hu, out, more).
      let lu = has_place s u hu in
      let z = size-in i u (omega (arith, lu, ks, ki)) out in
      let b = size_below_length (set i u true) in
      let l = length-set i u true in
      absurd (omega (arith, z, b, l, ki, few)))
      (λ (r, full). stays s i ks ki within slots matched r full)
      (grows_or_full k m entries s i (λ e. get_or slots e 0) ks ki within
      (matched_by entries i slots matched))
  greatest_from (suc fuel) s i ks ki within (slots, matched) few = ⊎_elim
      (λ (u, hu, out, more).
      let lu = has_place s u hu in
      let z = size-in i u (omega (arith, lu, ks, ki)) out in
      greatest_from fuel s (set i u true) ks (length-set i u true ∙ ki) (set_within i s u within hu)
      more (omega (arith, z, few)))
      (λ (r, full). stays s i ks ki within slots matched r full)
      (grows_or_full k m entries s i (λ e. get_or slots e 0) ks ki within
      (matched_by entries i slots matched))

  pub greatest : (s : List Bool) → length s ≡ k → (b : List Bool) × IsGreatest entries m s b
  greatest s ks = greatest_from k s (empty_set k) ks (length-replicate k false)
      (λ e h. absurd (nothing k e h)) (matching-matroid k entries).empty (omega arith)

  -- who has slots of its own has as many
  pub matched_slots : AreSlotsBelow entries m → (s i : List Bool) → IsWithin i s
      → IsMatchable entries i → size i ≤ slots_count entries m s
  matched_slots below s i within (slots, mi) =
      let a = size-count i in
      let c = count-into (length i) m (λ e. get_or i e false) (listed entries s)
      (λ e. get_or slots e 0) (λ v.
      chosen (length i) (λ e. get_or i e false && nat_eq (get_or slots e 0) v)) (λ e lt has.
      let v = get_or slots e 0 in
      let hit = chosen_is (length i) e (λ d. get_or i d false && nat_eq (get_or slots d 0) v) lt
      (and_from (get_or i e false) (nat_eq v v) has (eq-eqb v v refl)) in
      let d = chosen (length i) (λ d. get_or i d false && nat_eq (get_or slots d 0) v) in
      let (hd, sd) = and_parts (get_or i d false) (nat_eq (get_or slots d 0) v) hit.1 in (
        below e v (mi.own e has),
        listed_from entries s e v (within e has) (mi.own e has),
        mi.distinct d e hd has (eqb-true (get_or slots d 0) v sd),
      )) in
      omega (arith, a, c)

  -- a set of which no part has fewer slots than members has slots of its own
  pub matchable_by_slots : (t : List Bool) → length t ≡ k
      → ((r : List Bool) → length r ≡ k → IsWithin r t → size r ≤ slots_count entries m r)
      → IsMatchable entries t
  matchable_by_slots t kt enough =
      let (b, h) = greatest t kt in
      let a = size-minus t h.part (sym h.part_places) h.part_inside in
      let c = enough h.part (h.part_places ∙ kt) h.part_inside in
      let few = h.few in
      ⊎_elim
      (λ (same : b ≡ t). let P : List Bool
      → Type 0 = IsMatchable entries in subst P same h.matchable)
      (λ (less : size b < size t). absurd (omega (arith, a, c, few, less)))
      (size_grows b t h.places h.inside)
