-- The rows of one term after an exchange, by the rows before.
use Rattle.std.proofs.Common.{◌≡◌, ◌≢◌, ◌↔◌, ◌⊎◌, ⊎_elim, inl, inr, ℕ, ◌<◌, max, List, length, get_or, ℤ, refl, sym, ap, subst, ◌∙◌, arith}
use Rattle.std.proofs.lemmas.Bool.{cases_eq}
use Rattle.sfm_spec.specs.Sets.{AreDistinct}
use Rattle.sfm_spec.specs.Rows.{Depends, RowLaws}
use Rattle.sfm_spec.specs.Terms.{SetFunction, IsFamily, IsSubmodular, IsBase, HasRoom, exchanged}
use Rattle.sfm_spec.proofs.Sums.{length-exchanged}
use Rattle.sfm_spec.proofs.RowLaw.{depends_on, row_laws}
use Rattle.sfm_reach.specs.declared.bits.Bits.{Bits}
use Rattle.sfm_reach.specs.Bits.{IsUnionBut, bit_in}
use Rattle.sfm_reach.specs.Reach.{IsRow}
use Rattle.sfm_exchange.specs.Renewed.{IsExchanged, IsJoined}
use Rattle.sfm_reach.proofs.Words.{bit_in-lt}

-- the same where the place to was put in first
pub joined_by : (row more all joined : Bits) (to out : ℕ) → bit_in all to ≡ 1
    → ((e : ℕ) → e ≢ to → bit_in all e ≡ bit_in more e)
    → IsUnionBut row all out joined → IsJoined row more to out joined
joined_by row more all joined to out put kept is e =
    ((λ one. let (ne, o) = (is e).0 one in (ne, told o)), (λ (ne, o). (is e).1 (ne, back o))) where
      told : (bit_in row e ≡ 1) ⊎ (bit_in all e ≡ 1) → (bit_in row e ≡ 1) ⊎ (bit_in more e ≡ 1)
          ⊎ (e ≡ to)
      told (inl old) = inl old
      told (inr new) = ⊎_elim (λ same. inr (inr same)) (λ ne. inr (inl (sym (kept e ne) ∙ new)))
          (cases_eq e to)

      back : (bit_in row e ≡ 1) ⊎ (bit_in more e ≡ 1) ⊎ (e ≡ to) → (bit_in row e ≡ 1)
          ⊎ (bit_in all e ≡ 1)
      back (inl old) = inl old
      back (inr (inl new)) = inr (⊎_elim (λ same. rw same put) (λ ne. kept e ne ∙ new)
          (cases_eq e to))
      back (inr (inr same)) = inr (rw same put)

-- the places of two rows, with one put in and one taken out
pub joined_is : (row more a b c : Bits) (to out : ℕ)
    → ((e : ℕ) → bit_in a e ≡ max (bit_in row e) (bit_in more e)) → bit_in b to ≡ 1
    → ((e : ℕ) → e ≢ to → bit_in b e ≡ bit_in a e)
    → bit_in c out ≡ 0 → ((e : ℕ) → e ≢ out → bit_in c e ≡ bit_in b e) → IsJoined row more to out c
joined_is row more a b c to out both put kept gone stays e =
    (there (cases_eq e to), (λ (ne, o). stays e ne ∙ back (cases_eq e to) o)) where
      apart : bit_in c e ≡ 1 → e ≢ out
      apart one same = let z = rw (← same) at gone in omega (arith, one, z)

      there : (e ≡ to) ⊎ (e ≢ to) → bit_in c e ≡ 1 → (e ≢ out)
          × ((bit_in row e ≡ 1) ⊎ (bit_in more e ≡ 1) ⊎ (e ≡ to))
      there (inl same) one = (apart one, inr (inr same))
      there (inr ne) one = (apart one, either (cases_eq (bit_in row e) 1)) where
        is : max (bit_in row e) (bit_in more e) ≡ 1
        is = sym (both e) ∙ (sym (kept e ne) ∙ (sym (stays e (apart one)) ∙ one))

        either : (bit_in row e ≡ 1) ⊎ (bit_in row e ≢ 1) → (bit_in row e ≡ 1) ⊎ (bit_in more e ≡ 1)
            ⊎ (e ≡ to)
        either (inl old) = inl old
        either (inr other) =
            inr (inl (let l = bit_in-lt row e in let m = bit_in-lt more
            e in omega (arith, l, m, is, other)))

      back : (e ≡ to) ⊎ (e ≢ to) → (bit_in row e ≡ 1) ⊎ (bit_in more e ≡ 1) ⊎ (e ≡ to)
          → bit_in b e ≡ 1
      back (inl same) o = rw same put
      back (inr ne) (inl old) = let l = bit_in-lt row e in let m = bit_in-lt more e in let k = kept
          e
          ne in let j = both e in omega (arith, l, m, k, j, old)
      back (inr ne) (inr (inl new)) =
          let l = bit_in-lt row e in let m = bit_in-lt more e in let k = kept e ne in let j = both
          e in omega (arith, l, m, k, j, new)
      back (inr ne) (inr (inr same)) = absurd (ne same)

-- all places of a set are the term's
abbrev pub IsOfTerm : List ℕ → Bits → Type 0
IsOfTerm places row = (e : ℕ) → bit_in row e ≡ 1 → (w : ℕ) × (w < length places)
    × (get_or places w 0 ≡ e)

-- so are those of two joined, with one of the term
joined_inside : (places : List ℕ) (row more new : Bits) (s out : ℕ) → s < length places
    → IsOfTerm places row → IsOfTerm places more → IsJoined row more (get_or places s 0) out new
    → IsOfTerm places new
joined_inside places row more new s out ls old all is e one = by ((is e).0 one).1 where
  by : (bit_in row e ≡ 1) ⊎ (bit_in more e ≡ 1) ⊎ (e ≡ get_or places s 0) → (w : ℕ)
      × (w < length places) × (get_or places w 0 ≡ e)
  by (inl one) = old e one
  by (inr (inl one)) = all e one
  by (inr (inr same)) = (s, ls, sym same)

module _ (places : List ℕ) (distinct : AreDistinct places) {f : SetFunction} where
  -- a row tells, place by place, what depends on what
  pub row_tells : (z : List ℤ) (u : ℕ) (row : Bits) → IsRow places f z u row → (w : ℕ)
      → w < length places → (bit_in row (get_or places w 0) ≡ 1) ↔ ((w ≢ u) × Depends f z u w)
  row_tells z u row h w lw = (to, from) where
    to : bit_in row (get_or places w 0) ≡ 1 → (w ≢ u) × Depends f z u w
    to one = let (v, lv, ne, room, is) = (h (get_or places w 0)).0
        one in let same : v ≡ w = distinct v w lv lw is in (rw same at ne, inr (rw same at room))

    from : (w ≢ u) × Depends f z u w → bit_in row (get_or places w 0) ≡ 1
    from (ne, inl same) = absurd (ne same)
    from (ne, inr room) = (h (get_or places w 0)).1 (w, lw, ne, room, refl)

  -- and all its places are the term's
  row_inside : (z : List ℤ) (u : ℕ) (row : Bits) → IsRow places f z u row → IsOfTerm places row
  row_inside z u row h e one = let (v, lv, ne, room, is) = (h e).0 one in (v, lv, is)

  -- a set that tells this is the row
  row_if : (z : List ℤ) (u : ℕ) (row : Bits)
      → ((w : ℕ) → w < length places → (bit_in row (get_or places w 0) ≡ 1)
      ↔ ((w ≢ u) × Depends f z u w)) → IsOfTerm places row → IsRow places f z u row
  row_if z u row h inside e = (
    to,
    (λ (v, lv, ne, room, is). rw is at ((h v lv).1 (ne, inr room))),
  ) where
    to : bit_in row e ≡ 1 → (v : ℕ) × (v < length places) × (v ≢ u) × HasRoom f z u v
        × (get_or places v 0 ≡ e)
    to one =
        let (w, lw, is) = inside e one in
        let (ne, d) = (h w lw).0 (rw is one) in
        (w, lw, ne, ⊎_elim (λ same. absurd (ne same)) (λ room. room) d, is)

  -- of two places that depend on each other the one has the row of the other, with that in place of
  -- itself
  pub row_shared : IsFamily (length places) f → IsSubmodular (length places) f → (x : List ℤ)
      → length x ≡ length places → IsBase f x → (s u : ℕ) (of_s new : Bits) → s < length places
      → u < length places → IsRow places f x s of_s → Depends f x u s
      → bit_in of_s (get_or places u 0) ≡ 1
      → IsJoined of_s of_s (get_or places s 0) (get_or places u 0) new → IsRow places f x u new
  row_shared family law x sized base s u of_s new ls lu h to_s bit is =
      row_if x u new (λ w lw. (to w lw, from w lw))
      (joined_inside places of_s of_s new s _ ls (row_inside x s of_s h) (row_inside x s of_s h)
      is) where
        from_s : Depends f x s u
        from_s = ((row_tells x s of_s h u lu).0 bit).1

        of_s_too : (w : ℕ) → w < length places → bit_in of_s (get_or places w 0) ≡ 1
            → Depends f x u w
        of_s_too w lw one = depends_on family law sized base u s w lu ls lw to_s
            ((row_tells x s of_s h w lw).0 one).1

        to : (w : ℕ) → w < length places → bit_in new (get_or places w 0) ≡ 1 → (w ≢ u)
            × Depends f x u w
        to w lw one = let (ne, o) = (is (get_or places w 0)).0
            one in ((λ same. ne (ap (λ z. get_or places z 0) same)), by o) where
              by : (bit_in of_s (get_or places w 0) ≡ 1) ⊎ (bit_in of_s (get_or places w 0) ≡ 1)
                  ⊎ (get_or places w 0 ≡ get_or places s 0) → Depends f x u w
              by (inl one) = of_s_too w lw one
              by (inr (inl one)) = of_s_too w lw one
              by (inr (inr same)) = let here : w ≡ s = distinct w s lw ls same in rw here to_s

        from : (w : ℕ) → w < length places → (w ≢ u) × Depends f x u w
            → bit_in new (get_or places w 0) ≡ 1
        from w lw (ne, d) = (is (get_or places w 0)).1
            ((λ same. ne (distinct w u lw lu same)), by (cases_eq w s)) where
              by : (w ≡ s) ⊎ (w ≢ s) → (bit_in of_s (get_or places w 0) ≡ 1)
                  ⊎ (bit_in of_s (get_or places w 0) ≡ 1) ⊎ (get_or places w 0 ≡ get_or places s 0)
              by (inl same) = inr (inr (ap (λ z. get_or places z 0) same))
              by (inr other) = inl ((row_tells x s of_s h w lw).1
                  (other, depends_on family law sized base s u w ls lu lw from_s d))

-- an exchange that raises s and lowers t has led from the base x to the base y
pub record IsRaising (places : List ℕ) (f : SetFunction) (s t : ℕ) (x y : List ℤ) : Type 0 where
  pub distinct : AreDistinct places
  pub family : IsFamily (length places) f
  pub law : IsSubmodular (length places) f
  pub raised : s < length places
  pub lowered : t < length places
  pub apart : s ≢ t
  pub entries : length y ≡ length places
  pub base : IsBase f y
  pub moved : IsExchanged f x y s t

module _ {places : List ℕ} {f : SetFunction} {s t : ℕ} {x y : List ℤ}
    (m : IsRaising places f s t x y) where
  sized : length x ≡ length places
  sized = sym (length-exchanged x s t m.moved.amount) ∙ (ap length (sym m.moved.is) ∙ m.entries)

  after : IsBase f (exchanged x s t m.moved.amount)
  after = subst (IsBase f) m.moved.is m.base

  laws : RowLaws f x s t m.moved.amount
  laws = row_laws m.family m.law sized m.moved.base s t m.raised m.lowered m.apart m.moved.amount
      m.moved.some after

  within : (w : ℕ) → w < length places → w < length x
  within w l = rw sized l

  -- s depends on t before
  pub s_depends : Depends f x s t
  s_depends = inr (m.moved.amount, m.moved.some, after)

  -- where t was, s is now
  pub follows_s : (u : ℕ) → u < length places → Depends f x u t → Depends f y u s
  follows_s u lu d = rw m.moved.is (laws.follows u (within u lu) d)

  -- what comes to a place comes by t and from s
  pub arises_by : (u w : ℕ) → u < length places → w < length places → Depends f y u w
      → Depends f x u w ⊎ (Depends f x u t × Depends f x s w)
  arises_by u w lu lw d = laws.arises u w (within u lu) (within w lw) (rw m.moved.is at d)

  -- and where t stays nothing is lost, and all that s had comes
  pub stays_with : (u w : ℕ) → u < length places → w < length places → Depends f x u t
      → Depends f y u t → Depends f y u w ↔ (Depends f x u w ⊎ Depends f x s w)
  stays_with u w lu lw d still =
      rw m.moved.is ((laws.stays u (within u lu) d).0 (rw m.moved.is at still) w (within w lw))

  -- the row of a place that did not depend on t
  pub row_untouched : (u : ℕ) (row : Bits) → u < length places → (Depends f x u t → ⊥)
      → IsRow places f x u row → IsRow places f y u row
  row_untouched u row lu none h = row_if places m.distinct y u row (λ w lw.
      let tells = row_tells places m.distinct x u row h w lw in
      let same : Depends f y u w ↔ Depends f x u w = rw m.moved.is
      (laws.untouched u w (within u lu) (within w lw) none) in
      ((λ one. let (ne, d) = tells.0 one in (ne, same.1 d)), (λ (ne, d). tells.1 (ne, same.0 d))))
      (row_inside places m.distinct x u row h)

  -- the row of a place that depended on t, where s still does
  pub row_joined : (u : ℕ) (row of_s new : Bits) → u < length places → Depends f x u t
      → IsRow places f x u row → IsRow places f y s of_s → bit_in of_s (get_or places t 0) ≡ 1
      → IsJoined row of_s (get_or places s 0) (get_or places u 0) new → IsRow places f y u new
  row_joined u row of_s new lu d h hs bit is =
      row_if places m.distinct y u new (λ w lw. (to w lw, from w lw))
      (joined_inside places row of_s new s _ m.raised (row_inside places m.distinct x u row h)
      (row_inside places m.distinct y s of_s hs) is) where
        s_still : Depends f y s t
        s_still = ((row_tells places m.distinct y s of_s hs t m.lowered).0 bit).1

        u_still : Depends f y u t
        u_still = depends_on m.family m.law m.entries m.base u s t lu m.raised m.lowered
            (follows_s u lu d) s_still

        all : (w : ℕ) → w < length places → Depends f y u w ↔ (Depends f x u w ⊎ Depends f x s w)
        all w lw = stays_with u w lu lw d u_still

        of_all : (w : ℕ) → w < length places → Depends f y s w ↔ (Depends f x s w ⊎ Depends f x s w)
        of_all w lw = stays_with s w m.raised lw s_depends s_still

        to : (w : ℕ) → w < length places → bit_in new (get_or places w 0) ≡ 1 → (w ≢ u)
            × Depends f y u w
        to w lw one = let (ne, o) = (is (get_or places w 0)).0
            one in ((λ same. ne (ap (λ z. get_or places z 0) same)), by o) where
              by : (bit_in row (get_or places w 0) ≡ 1) ⊎ (bit_in of_s (get_or places w 0) ≡ 1)
                  ⊎ (get_or places w 0 ≡ get_or places s 0) → Depends f y u w
              by (inl old) = (all w lw).1
                  (inl ((row_tells places m.distinct x u row h w lw).0 old).1)
              by (inr (inl more)) = (all w lw).1
                  (inr (⊎_elim (λ one. one) (λ one. one)
                  ((of_all w lw).0 ((row_tells places m.distinct y s of_s hs w lw).0 more).1)))
              by (inr (inr same)) = let here : w ≡ s = m.distinct w s lw m.raised same in rw here
                  (follows_s u lu d)

        from : (w : ℕ) → w < length places → (w ≢ u) × Depends f y u w
            → bit_in new (get_or places w 0) ≡ 1
        from w lw (ne, dw) = (is (get_or places w 0)).1
            ((λ same. ne (m.distinct w u lw lu same)), by (cases_eq w s) ((all w lw).0 dw)) where
              by : (w ≡ s) ⊎ (w ≢ s) → Depends f x u w ⊎ Depends f x s w
                  → (bit_in row (get_or places w 0) ≡ 1) ⊎ (bit_in of_s (get_or places w 0) ≡ 1)
                  ⊎ (get_or places w 0 ≡ get_or places s 0)
              by o (inl old) = inl ((row_tells places m.distinct x u row h w lw).1 (ne, old))
              by (inl same) (inr more) = inr (inr (ap (λ z. get_or places z 0) same))
              by (inr other) (inr more) = inr
                  (inl ((row_tells places m.distinct y s of_s hs w lw).1
                  (other, (of_all w lw).1 (inl more))))
