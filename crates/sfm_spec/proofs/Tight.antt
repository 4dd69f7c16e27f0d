-- Tight sets of a base: closed under union and intersection, and the sets that hold with each place
-- all to which it has room.
use Rattle.std.proofs.Common.{◌≡◌, ◌≢◌, ◌⊎◌, ℕ, zero, suc, ◌<◌, ◌≤◌, Bool, true, false, ◌&&◌, not, List, [], ◌∷◌, length, get_or, replicate, ℤ, pos, ◌+ℤ◌, ◌-ℤ◌, ◌≤ℤ◌, ◌<ℤ◌, Option, Some, None, IsSome, refl, sym, ap, ◌∙◌, arith, inl, inr, ⊎_elim}
use Rattle.std.proofs.lemmas.Bool.{cases_lt, cases_Bool, and_parts, not-true, both_ways}
use Rattle.std.proofs.lemmas.Int.{ints}
use Rattle.std.proofs.lemmas.List.{length-replicate, get_or-replicate}
use Rattle.std.specs.Int.Signed.{le_z}
use Rattle.sfm_spec.specs.Sets.{Has, empty_set, whole_set, union, intersection, sum_over}
use Rattle.sfm_spec.specs.Terms.{SetFunction, IsFamily, IsSubmodular, IsBase, IsTight, HasRoom, IsTightSet, TightLaws, exchanged}
use Rattle.sfm_spec.proofs.Sums.{share, sum_over-modular, sum_over-exchanged, length-union, length-intersection, length-exchanged}
use Rattle.sfm_spec.proofs.Sets.{find_set, FoundSet, same_sets, has_or_not, in_union, union_left, union_right, in_both, in_first, in_second, Has-whole}

-- the value that there is
pub some_of : (o : Option ℤ) → IsSome o → (a : ℤ) × (o ≡ Some a)
some_of None h = cc
some_of (Some a) h = (a, refl)

-- there is a value
pub is_some_of : (o : Option ℤ) (a : ℤ) → o ≡ Some a → IsSome o
is_some_of None a h = cc
is_some_of (Some b) a h = refl

sum_over-empty : (k : ℕ) (x : List ℤ) → k ≡ length x → sum_over (replicate k false) x ≡ pos 0
sum_over-empty zero x h = refl
sum_over-empty (suc k) [] h = absurd (omega arith)
sum_over-empty (suc k) (y ∷ x) h = let r : sum_over (replicate k false) x ≡ pos 0 = sum_over-empty k
    x (omega arith) in omega (arith, ints, r)

module _ {k : ℕ} {f : SetFunction} (family : IsFamily k f) (law : IsSubmodular k f) {x : List ℤ}
    (sized : length x ≡ k) (base : IsBase f x) where
  -- a tight set of k places
  pub record TightSet (s : List Bool) : Type 0 where
    pub places : length s ≡ k
    pub tight : IsTight f x s

  -- unions and intersections of tight sets are tight
  pub tight_both : (s t : List Bool) → TightSet s → TightSet t → TightSet (union s t)
      × TightSet (intersection s t)
  tight_both s t hs ht =
      let places : length s ≡ length t = hs.places ∙ sym ht.places in
      let lu : length (union s t) ≡ k = length-union s t places ∙ hs.places in
      let li : length (intersection s t) ≡ k = length-intersection s t places ∙ hs.places in
      let ss : IsSome (f s) = is_some_of (f s) (sum_over s x) hs.tight in
      let st : IsSome (f t) = is_some_of (f t) (sum_over t x) ht.tight in
      let (c, fc) = some_of (f (union s t)) (family.unions s t hs.places ht.places ss st) in
      let (d, fd) = some_of (f (intersection s t))
      (family.intersections s t hs.places ht.places ss st) in
      let less = law.submodular s t (sum_over s x) (sum_over t x) c d hs.places ht.places hs.tight
      ht.tight fc fd in
      let modular = sum_over-modular s t x places (hs.places ∙ sym sized) in
      let wu = base.within (union s t) c (lu ∙ sym sized) fc in
      let wi = base.within (intersection s t) d (li ∙ sym sized) fd in
      let ec : c ≡ sum_over (union s t) x = omega (arith, ints, less, modular, wu, wi) in
      let ed : d ≡ sum_over (intersection s t) x = omega (arith, ints, less, modular, wu, wi) in (
        record { places = lu; tight = fc ∙ ap Some ec },
        record { places = li; tight = fd ∙ ap Some ed },
      )

  -- the empty set is tight
  pub tight_empty : TightSet (empty_set k)
  tight_empty = record {
    places = length-replicate k false;
    tight = law.at_empty ∙ ap Some (sym (sum_over-empty k x (sym sized)));
  }

  -- the whole set is tight
  pub tight_whole : TightSet (whole_set k)
  tight_whole = record { places = length-replicate k true; tight = rw sized at base.total }

  -- a tight set loses to no exchange: it holds, with u, all to which u has room
  pub tight_closed : (s : List Bool) (u v : ℕ) → TightSet s → u < k → v < k → u ≢ v → Has s u
      → HasRoom f x u v → Has s v
  tight_closed s u v hs ku kv ne hu (a, least, moved) =
      let kx : length s ≡ length x = hs.places ∙ sym sized in
      let e = sum_over-exchanged s x u v a kx (omega arith) (omega arith) ne in
      let w = moved.within s (sum_over s x) (kx ∙ sym (length-exchanged x u v a)) hs.tight in
      ⊎_elim (λ h. h) (λ h. clash h (rw (e, hu, h) at w) least) (has_or_not s v) where
        clash : get_or s v false ≡ false → (sum_over s x +ℤ (a -ℤ pos 0)) ≤ℤ sum_over s x
            → pos 1 ≤ℤ a → Has s v
        clash h w l = absurd (omega (arith, ints))

  tight_test : List Bool → Bool
  tight_test s = elim (f s) [ None ↦ false | Some a ↦ le_z a (sum_over s x) ]

  -- an allowed set with u and not v, which gets all of its value
  split_test : ℕ → ℕ → List Bool → Bool
  split_test u v s = get_or s u false && (not (get_or s v false) && tight_test s)

  tight_from_test : (s : List Bool) → length s ≡ k → tight_test s ≡ true → TightSet s
  unfolding tight_test
  tight_from_test s h t = record { places = h; tight = at (f s) refl t } where
    at : (o : Option ℤ) → f s ≡ o → elim o [ None ↦ false | Some a ↦ le_z a (sum_over s x) ] ≡ true
        → f s ≡ Some (sum_over s x)
    at None e t = cc
    at (Some a) e t = let w = base.within s a (h ∙ sym sized) e in let q : a ≡ sum_over s
        x = omega (arith, ints) in e ∙ ap Some q

  slack_from_test : (s : List Bool) (a : ℤ) → f s ≡ Some a → tight_test s ≡ false
      → sum_over s x <ℤ a
  unfolding tight_test
  slack_from_test s a e t = let p : le_z a (sum_over s x) ≡ false = rw (e, tight_test) at
      t in omega (arith, ints)

  -- u has room to v, or a tight set has u and not v
  pub room_or_split : (u v : ℕ) → u < k → v < k → u ≢ v → HasRoom f x u v
      ⊎ ((s : List Bool) × TightSet s × Has s u × (get_or s v false ≡ false))
  unfolding split_test
  room_or_split u v ku kv ne = from (find_set k (split_test u v)) where
    within : ((s : List Bool) → length s ≡ k → split_test u v s ≡ false) → (s : List Bool) (a : ℤ)
        → length s ≡ length (exchanged x u v (pos 1)) → f s ≡ Some a
        → sum_over s (exchanged x u v (pos 1)) ≤ℤ a
    within none s a h e =
        let kx : length s ≡ length x = h ∙ length-exchanged x u v (pos 1) in
        let moved = sum_over-exchanged s x u v (pos 1) kx (omega arith) (omega arith) ne in
        let w = base.within s a kx e in
        rw moved (cases (cases_Bool (get_or s u false)) (cases_Bool (get_or s v false)) w
        (none s (kx ∙ sized))) where
          cases : (get_or s u false ≡ true) ⊎ (get_or s u false ≡ false) → (get_or s v false ≡ true)
              ⊎ (get_or s v false ≡ false) → sum_over s x ≤ℤ a
              → (get_or s u false && (not (get_or s v false) && tight_test s)) ≡ false
              → (sum_over s x +ℤ (share s u (pos 1) -ℤ share s v (pos 1))) ≤ℤ a
          cases (inl hu) (inl hv) w t = rw (hu, hv) (omega (arith, ints))
          cases (inl hu) (inr hv) w t =
              let slack = slack_from_test s a e (rw (hu, hv) at t) in rw (hu, hv)
              (omega (arith, ints))
          cases (inr hu) (inl hv) w t = rw (hu, hv) (omega (arith, ints))
          cases (inr hu) (inr hv) w t = rw (hu, hv) (omega (arith, ints))

    total : f (whole_set (length (exchanged x u v (pos 1)))) ≡ Some
        (sum_over (whole_set (length (exchanged x u v (pos 1)))) (exchanged x u v (pos 1)))
    total =
        let hu : Has (whole_set (length x)) u = Has-whole (length x) u (omega arith) in
        let hv : Has (whole_set (length x)) v = Has-whole (length x) v (omega arith) in
        let moved = sum_over-exchanged (whole_set (length x)) x u v (pos 1)
        (length-replicate (length x) true) (omega arith) (omega arith) ne in
        let plain = rw (hu, hv) at moved in
        let same : sum_over (whole_set (length x)) (exchanged x u v (pos 1)) ≡ sum_over
        (whole_set (length x)) x = omega (arith, ints, plain) in
        rw (length-exchanged x u v (pos 1)) (base.total ∙ ap Some (sym same))

    from : FoundSet k (split_test u v) ⊎ ((s : List Bool) → length s ≡ k → split_test u v s ≡ false)
        → HasRoom f x u v ⊎ ((s : List Bool) × TightSet s × Has s u × (get_or s v false ≡ false))
    from (inl (s, h, t)) =
        let p = and_parts (get_or s u false) (not (get_or s v false) && tight_test s) t in
        let q = and_parts (not (get_or s v false)) (tight_test s) p.1 in
        inr (s, tight_from_test s h q.1, p.0, not-true (get_or s v false) q.0)
    from (inr none) = inl (
      pos 1,
      omega (arith, ints),
      record { within = within none; total = total },
    )

  abbrev HoldsAll : List Bool → Type 0
  HoldsAll s = (u v : ℕ) → u < k → v < k → u ≢ v → Has s u → HasRoom f x u v → Has s v

  module _ (s : List Bool) (places : length s ≡ k) (holds : HoldsAll s) where
    -- a tight set with u and none of the places below m that s lacks
    Inner : ℕ → ℕ → Type 0
    Inner u m = (t : List Bool) × TightSet t × Has t u × ((v : ℕ) → v < m → Has t v → Has s v)

    inner : (u : ℕ) → u < k → Has s u → (m : ℕ) → m ≤ k → Inner u m
    unfolding Inner
    inner u ku hu zero le = (
      whole_set k,
      tight_whole,
      Has-whole k u ku,
      λ v h _. absurd (omega arith),
    )
    inner u ku hu (suc m) le = more (inner u ku hu m (omega arith)) (has_or_not s m) where
      step : (t : List Bool) → ((v : ℕ) → v < m → Has t v → Has s v) → (Has t m → Has s m) → (v : ℕ)
          → v < suc m → Has t v → Has s v
      step t below here v h ht = ⊎_elim (λ lt. below v lt ht)
          (λ e. let g : m ≡ v = omega arith in rw (← g) (here (rw g ht))) (cases_lt v m)

      more : Inner u m → Has s m ⊎ (get_or s m false ≡ false) → Inner u (suc m)
      more (t, tight, ht, below) (inl hm) = (t, tight, ht, step t below (λ _. hm))
      more (t, tight, ht, below) (inr nm) = split (room_or_split u m ku (omega arith) ne) where
        ne : u ≢ m
        ne e = both_ways (get_or s m false) nm (rw e at hu)

        split : HasRoom f x u m ⊎ ((r : List Bool) × TightSet r × Has r u
            × (get_or r m false ≡ false)) → Inner u (suc m)
        split (inl room) = absurd (both_ways (get_or s m false) nm
            (holds u m ku (omega arith) ne hu room))
        split (inr (r, rt, ru, rm)) =
            let same : length t ≡ length r = tight.places ∙ sym rt.places in (
              intersection t r,
              (tight_both t r tight rt).1,
              in_both t r u same ht ru,
              step (intersection t r) (λ v h i. below v h (in_first t r v same i))
                  (λ i. absurd (both_ways (get_or r m false) rm (in_second t r m same i))),
            )

    -- a tight set within s with each of the places below m that s has
    Outer : ℕ → Type 0
    Outer m = (t : List Bool) × TightSet t × ((v : ℕ) → v < k → Has t v → Has s v)
        × ((u : ℕ) → u < m → Has s u → Has t u)

    outer : (m : ℕ) → m ≤ k → Outer m
    unfolding Outer Inner
    outer zero le = (
      empty_set k,
      tight_empty,
      (λ v h i. absurd (both_ways (get_or (empty_set k) v false)
          (get_or-replicate k v false false h) i)),
      λ u h _. absurd (omega arith),
    )
    outer (suc m) le = more (outer m (omega arith)) (has_or_not s m) where
      step : (t : List Bool) → ((u : ℕ) → u < m → Has s u → Has t u) → (Has s m → Has t m) → (u : ℕ)
          → u < suc m → Has s u → Has t u
      step t below here u h hs = ⊎_elim (λ lt. below u lt hs)
          (λ e. let g : m ≡ u = omega arith in rw (← g) (here (rw g hs))) (cases_lt u m)

      more : Outer m → Has s m ⊎ (get_or s m false ≡ false) → Outer (suc m)
      more (t, tight, within, below) (inr nm) =
          (t, tight, within, step t below (λ hm. absurd (both_ways (get_or s m false) nm hm)))
      more (t, tight, within, below) (inl hm) =
          join (inner m (omega arith) hm k (omega arith)) where
            join : Inner m k → Outer (suc m)
            join (r, rt, rm, inside) =
                let same : length t ≡ length r = tight.places ∙ sym rt.places in (
                  union t r,
                  (tight_both t r tight rt).0,
                  (λ v h i. ⊎_elim (within v h) (inside v h) (in_union t r v same i)),
                  step (union t r) (λ u h hs. union_left t r u same (below u h hs))
                      (λ _. union_right t r m same rm),
                )

    -- a set that holds, with each place, all to which it has room is tight
    pub closed_tight : TightSet s
    unfolding Outer
    closed_tight = from (outer k (omega arith)) where
      from : Outer k → TightSet s
      from (t, tight, within, below) =
          let same : t ≡ s = same_sets t s (tight.places ∙ sym places)
          (λ e h. within e (rw (← tight.places) h)) (λ e h. below e (rw (← tight.places) h)) in
          rw (← same) tight

-- the laws of tight sets, at any base
pub tight_laws : {k : ℕ} {f : SetFunction} {x : List ℤ} → IsFamily k f → IsSubmodular k f
    → length x ≡ k → IsBase f x → TightLaws f x
tight_laws {k} {f} {x} family law sized base = record {
  unions = λ s t hs ht. let r = (tight_both family law sized base s t (to s hs)
      (to t ht)).0 in record { places = r.places ∙ sym sized; tight = r.tight };
  intersections = λ s t hs ht. let r = (tight_both family law sized base s t (to s hs)
      (to t ht)).1 in record { places = r.places ∙ sym sized; tight = r.tight };
  exact = λ s h. (
    (λ tight u v ku kv ne hu room. tight_closed family law sized base s u v
        (record { places = h ∙ sized; tight = tight }) (rw (← sized) ku) (rw (← sized) kv) ne hu
        room),
    (λ holds. (closed_tight family law sized base s (h ∙ sized)
        (λ u v ku kv. holds u v (rw sized ku) (rw sized kv))).tight),
  );
} where
  to : (s : List Bool) → IsTightSet f x s → TightSet family law sized base s
  to s h = record { places = h.places ∙ sized; tight = h.tight }
