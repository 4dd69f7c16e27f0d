-- What depends on what at a base of one term, and how an exchange changes it. No least tight set is
-- ever built: each proof takes the one tight set that parts two places where there is no room
-- between them.
use Rattle.std.proofs.Common.{◌≡◌, ◌≢◌, ◌↔◌, ◌⊎◌, ℕ, ◌<◌, Bool, false, List, length, get_or, ℤ, pos, ◌+ℤ◌, ◌-ℤ◌, ◌≤ℤ◌, Some, if◌then◌else◌, sym, ap, ◌∙◌, arith, inl, inr, ⊎_elim}
use Rattle.std.proofs.lemmas.Bool.{both_ways, cases_eq, and_left}
use Rattle.std.proofs.lemmas.Int.{ints}
use Rattle.sfm_spec.specs.Sets.{Has, intersection, sum_over}
use Rattle.sfm_spec.specs.Terms.{SetFunction, IsFamily, IsSubmodular, IsBase, IsTight, IsTightSet, HasRoom, exchanged}
use Rattle.sfm_spec.specs.Rows.{Depends, LeastTight, HasMoreRoom, RowLaws}
use Rattle.sfm_spec.proofs.Sums.{share, sum_over-exchanged, length-exchanged}
use Rattle.sfm_spec.proofs.Sets.{has_or_not, get_or-intersection, in_both, in_second}
use Rattle.sfm_spec.proofs.Exchange.{base_moved, leaves_room}
use Rattle.sfm_spec.proofs.Tight.{TightSet, tight_both, room_or_split, tight_closed}
use Rattle.sfm_spec.proofs.NewSteps.{new_step}

-- ---- at one base

module _ {k : ℕ} {f : SetFunction} (family : IsFamily k f) (law : IsSubmodular k f) {x : List ℤ}
    (sized : length x ≡ k) (base : IsBase f x) where
  -- a tight set with e and not w
  abbrev pub Parts : ℕ → ℕ → Type 0
  Parts e w = (r : List Bool) × TightSet family law sized base r × Has r e
      × (get_or r w false ≡ false)

  -- w is in the least tight set of e, or a tight set parts them
  pub depends_or_parts : (e w : ℕ) → e < k → w < k → Depends f x e w ⊎ Parts e w
  depends_or_parts e w ke kw = ⊎_elim (λ same. inl (inl same))
      (λ apart. ⊎_elim (λ room. inl (inr room)) (λ cut. inr cut)
      (room_or_split family law sized base e w ke kw (λ q. apart (sym q)))) (cases_eq w e)

  -- a tight set that has e has all that e depends on
  pub holds_all : (r : List Bool) (e w : ℕ) → TightSet family law sized base r → e < k → w < k
      → Has r e → Depends f x e w → Has r w
  holds_all r e w tight ke kw has (inl same) = rw same has
  holds_all r e w tight ke kw has (inr room) =
      ⊎_elim (λ same. rw (← same) has)
      (λ apart. tight_closed family law sized base r e w tight ke kw apart has room) (cases_eq e w)

  -- what depends on what is carried on
  pub depends_on : (e v w : ℕ) → e < k → v < k → w < k → Depends f x e v → Depends f x v w
      → Depends f x e w
  depends_on e v w ke kv kw one two =
      ⊎_elim (λ h. h) (λ cut. absurd (clash cut)) (depends_or_parts e w ke kw) where
        clash : Parts e w → ⊥
        clash (r, tight, has, none) =
            both_ways (get_or r w false) none
            (holds_all r v w tight kv kw (holds_all r e v tight ke kv has one) two)

  -- each least tight set is what all tight sets with the place have in common
  pub least_tight : LeastTight f x
  least_tight e w le lw = (to, from) where
    ke : e < k
    ke = rw (← sized) le

    kw : w < k
    kw = rw (← sized) lw

    to : Depends f x e w → (r : List Bool) → IsTightSet f x r → Has r e → Has r w
    to d r h has = holds_all r e w (record { places = h.places ∙ sized; tight = h.tight }) ke kw has
        d

    from : ((r : List Bool) → IsTightSet f x r → Has r e → Has r w) → Depends f x e w
    from all = ⊎_elim (λ h. h) (λ cut. absurd (clash cut)) (depends_or_parts e w ke kw) where
      clash : Parts e w → ⊥
      clash (r, h, has, none) = both_ways (get_or r w false) none
          (all r (record { places = h.places ∙ sym sized; tight = h.tight }) has)

-- ---- before and after an exchange

module _ {k : ℕ} {f : SetFunction} (family : IsFamily k f) (law : IsSubmodular k f) {x : List ℤ}
    (sized : length x ≡ k) (base : IsBase f x)
    (s t : ℕ) (ks : s < k) (kt : t < k) (apart : s ≢ t) (a : ℤ) (some : pos 1 ≤ℤ a)
    (after : IsBase f (exchanged x s t a)) where
  -- the row afterwards has as many places
  sized_after : length (exchanged x s t a) ≡ k
  sized_after = length-exchanged x s t a ∙ sized

  abbrev Tight : List Bool → Type 0
  Tight r = TightSet family law sized base r

  abbrev TightAfter : List Bool → Type 0
  TightAfter r = TightSet family law sized_after after r

  abbrev DependsAfter : ℕ → ℕ → Type 0
  DependsAfter e w = Depends f (exchanged x s t a) e w

  -- what the exchange adds to a set
  change : (r : List Bool) → length r ≡ k
      → sum_over r (exchanged x s t a) ≡ (sum_over r x +ℤ (share r s a -ℤ share r t a))
  change r l = sum_over-exchanged r x s t a (l ∙ sym sized) (rw sized ks) (rw sized kt) apart

  -- nothing, where it has both places or neither
  unchanged : (r : List Bool) → length r ≡ k → get_or r s false ≡ get_or r t false
      → sum_over r (exchanged x s t a) ≡ sum_over r x
  unchanged r l e =
      let c = change r l in
      let q = ap (λ b. if b then a else pos 0) e in
      omega (arith, ints, c, q)

  -- such a set is tight before where it is tight after
  tight_before : (r : List Bool) → TightAfter r → get_or r s false ≡ get_or r t false → Tight r
  tight_before r h e = record {
    places = h.places;
    tight = h.tight ∙ ap Some (unchanged r h.places e);
  }

  -- and after where it is tight before
  tight_after : (r : List Bool) → Tight r → get_or r s false ≡ get_or r t false → TightAfter r
  tight_after r h e = record {
    places = h.places;
    tight = h.tight ∙ ap Some (sym (unchanged r h.places e));
  }

  -- a set that is tight after and has t has s
  has_s : (r : List Bool) → TightAfter r → Has r t → Has r s
  has_s r h ht = ⊎_elim (λ y. y) (λ ns. absurd (clash ns)) (has_or_not r s) where
    clash : get_or r s false ≡ false → ⊥
    clash ns =
        let c = rw (ns, ht) at (change r h.places) in
        let w = base.within r (sum_over r (exchanged x s t a)) (h.places ∙ sym sized) h.tight in
        omega (arith, ints, c, w, some)

  -- a set that is tight before and has s has t
  has_t : (r : List Bool) → Tight r → Has r s → Has r t
  has_t r h hs = tight_closed family law sized base r s t h ks kt apart hs (a, some, after)

  -- a set that is tight after is tight before, or it has s and not t
  tight_or_gains : (r : List Bool) → TightAfter r → Tight r ⊎ (Has r s × (get_or r t false ≡ false))
  tight_or_gains r h = ⊎_elim
      (λ ht. inl (tight_before r h (has_s r h ht ∙ sym ht)))
      (λ nt. ⊎_elim (λ hs. inr (hs, nt)) (λ ns. inl (tight_before r h (ns ∙ sym nt)))
      (has_or_not r s)) (has_or_not r t)

  -- where a set has s just where it has t, it has both or neither
  both_or_neither : (r : List Bool) → Has r s ↔ Has r t → get_or r s false ≡ get_or r t false
  both_or_neither r (there, back) = ⊎_elim
      (λ hs. hs ∙ sym (there hs))
      (λ ns. ⊎_elim (λ ht. absurd (both_ways (get_or r s false) ns (back ht))) (λ nt. ns ∙ sym nt)
      (has_or_not r t)) (has_or_not r s)

  -- which sets are tight after
  tight_exactly : (r : List Bool) → length r ≡ k → IsTight f (exchanged x s t a) r
      ↔ ((IsTight f x r × (Has r s ↔ Has r t))
      ⊎ (Has r s × (Has r t → ⊥) × (f r ≡ Some (sum_over r x +ℤ a))))
  tight_exactly r l = (to, from) where
    grows : Has r s → get_or r t false ≡ false
        → sum_over r (exchanged x s t a) ≡ (sum_over r x +ℤ a)
    grows hs nt = let c = rw (hs, nt) at (change r l) in omega (arith, ints, c)

    to : IsTight f (exchanged x s t a) r → (IsTight f x r × (Has r s ↔ Has r t))
        ⊎ (Has r s × (Has r t → ⊥) × (f r ≡ Some (sum_over r x +ℤ a)))
    to h = at (tight_or_gains r set) where
      set : TightAfter r
      set = record { places = l; tight = h }

      at : Tight r ⊎ (Has r s × (get_or r t false ≡ false)) → (IsTight f x r × (Has r s ↔ Has r t))
          ⊎ (Has r s × (Has r t → ⊥) × (f r ≡ Some (sum_over r x +ℤ a)))
      at (inl old) = inl (old.tight, (has_t r old, has_s r set))
      at (inr (hs, nt)) = inr (hs, both_ways (get_or r t false) nt, h ∙ ap Some (grows hs nt))

    from : (IsTight f x r × (Has r s ↔ Has r t))
        ⊎ (Has r s × (Has r t → ⊥) × (f r ≡ Some (sum_over r x +ℤ a)))
        → IsTight f (exchanged x s t a) r
    from (inl (old, both)) = (tight_after r (record { places = l; tight = old })
        (both_or_neither r both)).tight
    from (inr (hs, none, e)) = e ∙ ap Some
        (sym (grows hs (⊎_elim (λ ht. absurd (none ht)) (λ nt. nt) (has_or_not r t))))

  -- w comes to e only where t was with e, and w with s
  arises : (e w : ℕ) → e < k → w < k → DependsAfter e w → Depends f x e w
      ⊎ (Depends f x e t × Depends f x s w)
  arises e w ke kw (inl same) = inl (inl same)
  arises e w ke kw (inr room) = ⊎_elim (λ same. inl (inl (sym same)))
      (λ ne. at (new_step family law sized base s t ks kt apart a some after e w ke kw ne room))
      (cases_eq e w) where
        at : (HasRoom f x e w) ⊎ (((e ≡ t) ⊎ HasRoom f x e t) × ((w ≡ s) ⊎ HasRoom f x s w))
            → Depends f x e w ⊎ (Depends f x e t × Depends f x s w)
        at (inl old) = inl (inr old)
        at (inr (first, second)) = inr
            (⊎_elim (λ same. inl (sym same)) (λ room. inr room) first, second)

  -- s comes wherever t was
  follows : (e : ℕ) → e < k → Depends f x e t → DependsAfter e s
  follows e ke d = ⊎_elim (λ h. h) (λ cut. absurd (clash cut))
      (depends_or_parts family law sized_after after e s ke ks) where
        clash : Parts family law sized_after after e s → ⊥
        clash (r, h, has, ns) = ⊎_elim
            (λ tight. both_ways (get_or r s false) ns
            (has_s r h (holds_all family law sized base r e t tight ke kt has d)))
            (λ gains. both_ways (get_or r s false) ns gains.0) (tight_or_gains r h)

  -- nothing changes where t was not
  untouched : (e w : ℕ) → e < k → w < k → (Depends f x e t → ⊥) → DependsAfter e w ↔ Depends f x e w
  untouched e w ke kw none = (to, from) where
    to : DependsAfter e w → Depends f x e w
    to d = ⊎_elim (λ h. h) (λ h. absurd (none h.0)) (arises e w ke kw d)

    from : Depends f x e w → DependsAfter e w
    from d = ⊎_elim (λ h. h) (λ cut.
        absurd (clash cut (⊎_elim (λ h. absurd (none h)) (λ parts. parts)
        (depends_or_parts family law sized base e t ke kt))))
        (depends_or_parts family law sized_after after e w ke kw) where
          clash : Parts family law sized_after after e w → Parts family law sized base e t → ⊥
          clash (r, hr, re, rw') (p, hp, pe, pt) =
              both_ways (get_or (intersection r p) w false) without
              (holds_all family law sized base (intersection r p) e w before ke kw
              (in_both r p e same re pe) d) where
                same : length r ≡ length p
                same = hr.places ∙ sym hp.places

                ps : get_or p s false ≡ false
                ps = ⊎_elim (λ hs. absurd (both_ways (get_or p t false) pt (has_t p hp hs)))
                    (λ ns. ns)
                    (has_or_not p s)

                lacks : (d : ℕ) → get_or p d false ≡ false
                    → get_or (intersection r p) d false ≡ false
                lacks d n = ⊎_elim
                    (λ h. absurd (both_ways (get_or p d false) n (in_second r p d same h)))
                    (λ z. z) (has_or_not (intersection r p) d)

                before : Tight (intersection r p)
                before = tight_before (intersection r p)
                    (tight_both family law sized_after after r p hr
                    (tight_after p hp (ps ∙ sym pt))).1
                    (lacks s ps ∙ sym (lacks t pt))

                without : get_or (intersection r p) w false ≡ false
                without = get_or-intersection r p w same
                    ∙ and_left (get_or r w false) (get_or p w false)
                    rw'

  -- nothing is lost where room is left
  kept : HasMoreRoom f x s t a → (e w : ℕ) → e < k → w < k → Depends f x e w → DependsAfter e w
  kept more e w ke kw d = ⊎_elim (λ h. h) (λ cut. absurd (clash cut))
      (depends_or_parts family law sized_after after e w ke kw) where
        clash : Parts family law sized_after after e w → ⊥
        clash (r, h, has, none) = ⊎_elim
            (λ tight. both_ways (get_or r w false) none
            (holds_all family law sized base r e w tight ke kw has d))
            (λ gains. short gains.0 gains.1) (tight_or_gains r h) where
              short : Has r s → get_or r t false ≡ false → ⊥
              short hs nt =
                  let room = leaves_room base (rw sized ks) (rw sized kt) apart (a +ℤ pos 1) more r
                  (sum_over r (exchanged x s t a)) (h.places ∙ sym sized) h.tight hs nt in
                  let c = rw (hs, nt) at (change r h.places) in
                  omega (arith, ints, room, c)

  -- and then all that s had comes where t was
  joined : HasMoreRoom f x s t a → (e w : ℕ) → e < k → w < k → Depends f x e t → DependsAfter e w
      ↔ (Depends f x e w ⊎ Depends f x s w)
  joined more e w ke kw d = (
    (λ h. ⊎_elim (λ old. inl old) (λ new. inr new.1) (arises e w ke kw h)),
    (λ h. ⊎_elim (λ old. kept more e w ke kw old)
        (λ from_s. depends_on family law sized_after after e s w ke ks kw (follows e ke d)
        (kept more s w ks kw from_s)) h),
  )

  -- so it is exactly where t stays
  stays : (e : ℕ) → e < k → Depends f x e t → DependsAfter e t
      ↔ ((w : ℕ) → w < k → DependsAfter e w ↔ (Depends f x e w ⊎ Depends f x s w))
  stays e ke d = (to, (λ all. (all t kt).1 (inl d))) where
    to : DependsAfter e t → (w : ℕ) → w < k → DependsAfter e w ↔ (Depends f x e w ⊎ Depends f x s w)
    to still w kw = (
      (λ h. ⊎_elim (λ old. inl old) (λ new. inr new.1) (arises e w ke kw h)),
      back,
    ) where
      back : Depends f x e w ⊎ Depends f x s w → DependsAfter e w
      back old = ⊎_elim (λ h. h) (λ cut. absurd (clash cut))
          (depends_or_parts family law sized_after after e w ke kw) where
            clash : Parts family law sized_after after e w → ⊥
            clash (r, h, has, none) = both_ways (get_or r w false) none
                (⊎_elim (λ one. holds_all family law sized base r e w before ke kw has one)
                (λ two. holds_all family law sized base r s w before ks kw with_s two) old) where
                  with_t : Has r t
                  with_t = holds_all family law sized_after after r e t h ke kt has still

                  with_s : Has r s
                  with_s = has_s r h with_t

                  before : Tight r
                  before = tight_before r h (with_s ∙ sym with_t)

  -- t leaves s where all room is used up
  gone : (HasMoreRoom f x s t a → ⊥) → DependsAfter s t → ⊥
  gone full (inl same) = apart (sym same)
  gone full (inr (b, least, moved)) =
      full (base_moved base (rw sized ks) (rw sized kt) apart (a +ℤ pos 1)
      (omega (arith, ints, some)) leaves) where
        leaves : (r : List Bool) (c : ℤ) → length r ≡ length x → f r ≡ Some c → Has r s
            → get_or r t false ≡ false → (sum_over r x +ℤ (a +ℤ pos 1)) ≤ℤ c
        leaves r c l e hs nt =
            let room = leaves_room after (rw sized_after ks) (rw sized_after kt) apart b moved r c
            (l ∙ sym (length-exchanged x s t a)) e hs nt in
            let z = rw (hs, nt) at (change r (l ∙ sized)) in
            omega (arith, ints, room, z, least)

  -- rows after an exchange
  pub row_laws : RowLaws f x s t a
  row_laws = record {
    tight = λ r l. tight_exactly r (l ∙ sized);
    arises = λ e w le lw. arises e w (rw (← sized) le) (rw (← sized) lw);
    follows = λ e le. follows e (rw (← sized) le);
    untouched = λ e w le lw. untouched e w (rw (← sized) le) (rw (← sized) lw);
    kept = λ more e w le lw. kept more e w (rw (← sized) le) (rw (← sized) lw);
    joined = λ more e w le lw. joined more e w (rw (← sized) le) (rw (← sized) lw);
    stays = λ e le d. (
      (λ still w lw. (stays e (rw (← sized) le) d).0 still w (rw (← sized) lw)),
      (λ all. (stays e (rw (← sized) le) d).1 (λ w kw. all w (rw sized kw))),
    );
    gone = gone;
  }
