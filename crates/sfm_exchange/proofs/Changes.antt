-- Which rows of a term an exchange has changed, and how.
use Rattle.std.proofs.Common.{◌≡◌, ◌≢◌, ◌↔◌, ◌⊎◌, inl, inr, refl, ⊎_elim, ℕ, ◌<◌, max, List, length, get_or, set, ℤ, sym, ◌∙◌, arith, get_or-set_other}
use Rattle.std.proofs.lemmas.Bool.{cases_eq}
use Rattle.sfm_spec.specs.Terms.{SetFunction}
use Rattle.sfm_reach.specs.declared.bits.Bits.{Bits}
use Rattle.sfm_exchange.specs.declared.renewing.Changes.{Changes}
use Rattle.sfm_reach.specs.Bits.{bit_in, blank_bits, set_at}
use Rattle.sfm_reach.specs.Reach.{IsRow}
use Rattle.sfm_reach.proofs.Words.{bit_in-lt}
use Rattle.sfm_exchange.specs.Renewed.{AreAsked, AreChanges, AreJoined, AreRenewed}
use Rattle.sfm_exchange.proofs.AtOnce.{others_kept, told_found}
use Rattle.sfm_exchange.proofs.Claiming.{IsRenewing, found_inside, others_stay}

module _ {places : List ℕ} {f : SetFunction} {s t : ℕ} {x y : List ℤ} {claimed found : Bits}
    {rows : List Bits} (r : IsRenewing places f s t x y claimed found rows) (of_s : Bits)
    (hs : IsRow places f y s of_s) (changes : Changes) where
  -- rows that are joined have what they had, but for that of s, which may be any
  pub changes_grown : (more : Bits) (mid : List Bits)
      → AreJoined places found more (get_or places s 0) (length places) rows mid
      → ((e : ℕ) → (bit_in changes.anew e ≡ 1) ↔ (e ≡ get_or places s 0))
      → ((e : ℕ) → (bit_in changes.grown e ≡ 1)
      ↔ ((e ≢ get_or places s 0) × (bit_in found e ≡ 1)))
      → AreChanges places changes rows (set mid s of_s)
  changes_grown more mid joined anew grown = record {
    inside = λ e. ⊎_elim (λ one. found_inside r e ((grown e).0 one).1)
        (λ one. (s, r.raising.raised, sym ((anew e).0 one)));
    grown = λ u t lu one bit.
        let (ne, has) = (grown (get_or places u 0)).0 one in
        let apart : u ≢ s = λ same. ne (rw same refl) in
        rw (get_or-set_other mid s u of_s blank_bits apart)
        ((joined.joined u lu has t).1 ((λ same. own u t lu bit same), inl bit));
    others = λ u lu out not.
        let ne : get_or places u 0 ≢ get_or places s 0 = λ same.
        not ((anew (get_or places u 0)).1 same) in
        others_stay r of_s hs more mid joined u lu
        (λ has. out ((grown (get_or places u 0)).1 (ne, has)));
  } where
    own : (u t : ℕ) → u < length places → bit_in (set_at rows u) t ≡ 1 → t ≡ get_or places u 0 → ⊥
    own u t lu bit same =
        let (v, lv, ne, is) = (r.claims.claims u lu).inside t bit in
        ne (r.raising.distinct v u lv lu (is ∙ same))

  -- rows that are asked and told may be any, and so may that of s
  pub changes_anew : (nothing : (e : ℕ) → bit_in claimed e ≢ 1) (others : Bits)
      (out : bit_in others (get_or places s 0) ≡ 0)
      (same : (e : ℕ) → e ≢ get_or places s 0 → bit_in others e ≡ bit_in found e) (told : Bits)
      (mid : List Bits)
      → AreAsked places f y others told (length places) (set rows s of_s) mid
      → ((e : ℕ) → bit_in changes.grown e ≡ 0) → bit_in changes.anew (get_or places s 0) ≡ 1
      → ((e : ℕ) → e ≢ get_or places s 0 → bit_in changes.anew e ≡ bit_in told e)
      → AreChanges places changes rows mid
  changes_anew nothing others out same told mid asked none put rest = record {
    inside = λ e. ⊎_elim (λ one. absurd (let z = none e in omega (arith, z, one)))
        (λ one. ⊎_elim (λ is. (s, r.raising.raised, sym is))
        (λ ne. found_inside r e (told_found r nothing of_s hs others out same told mid asked e
        (sym (rest e ne) ∙ one))) (cases_eq e (get_or places s 0)));
    grown = λ u t lu one bit. absurd (let z = none (get_or places u 0) in omega (arith, z, one));
    others = λ u lu out_of not.
        let ne : get_or places u 0 ≢ get_or places s 0 = λ is. not (rw is put) in
        others_kept r nothing of_s hs others out same told mid asked u lu (λ is. ne (rw is refl))
        (λ has. not (rest (get_or places u 0) ne ∙ has));
  }

  -- where the row of s has all that it had, it has grown as the others have
  pub changes_all : ((e : ℕ) → (bit_in changes.anew e ≡ 1) ↔ (e ≡ get_or places s 0))
      → (all : Changes) → ((e : ℕ) → bit_in all.grown e ≡ max (bit_in changes.grown e)
      (bit_in changes.anew e)) → ((e : ℕ) → bit_in all.anew e ≡ 0)
      → ((e : ℕ) → bit_in (set_at rows s) e ≡ 1 → bit_in of_s e ≡ 1)
      → {claimed' : Bits} {after : List Bits}
      → AreRenewed places f y claimed' changes rows after → AreChanges places all rows after
  changes_all anew all grown none has {claimed'} {after} h = record {
    inside = λ e. ⊎_elim (λ one. h.changes.inside e (either e one))
        (λ one. absurd (let z = none e in omega (arith, z, one)));
    grown = λ u t lu one bit. ⊎_elim
        (λ is. h.changes.grown u t lu is bit)
        (λ is.
        let same : u ≡ s = r.raising.distinct u s lu r.raising.raised
        ((anew (get_or places u 0)).0 is) in
        let (v, lv, ne, room, at) = (hs t).0 (has t (rw same at bit)) in
        rw (same, ← at) ((h.claims.claims s r.raising.raised).has v lv ne room))
        (either (get_or places u 0) one);
    others = λ u lu out not. h.changes.others u lu
        (λ one. out (let g = grown (get_or places u 0) in let m = bit_in-lt changes.anew
        (get_or places u 0) in omega (arith, g, m, one)))
        (λ one. out (let g = grown (get_or places u 0) in let m = bit_in-lt changes.grown
        (get_or places u 0) in omega (arith, g, m, one)));
  } where
    either : (e : ℕ) → bit_in all.grown e ≡ 1 → (bit_in changes.grown e ≡ 1)
        ⊎ (bit_in changes.anew e ≡ 1)
    either e one = ⊎_elim
        (λ is. inl is)
        (λ not. inr (let g = grown e in let m = bit_in-lt changes.grown e in let l = bit_in-lt
        changes.anew e in omega (arith, g, m, l, one, not)))
        (cases_eq (bit_in changes.grown e) 1)
