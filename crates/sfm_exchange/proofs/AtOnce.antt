-- Rows that are asked at once after an exchange that raises s and lowers t and has used up its
-- room: where none was claimed, all are true afterwards.
use Rattle.std.proofs.Common.{◌≡◌, ◌≢◌, ◌⊎◌, ⊎_elim, inl, inr, refl, ℕ, ◌+◌, ◌<◌, List, length, get_or, set, ℤ, sym, subst, ◌∙◌, arith, get_or-set_same, get_or-set_other, length-set}
use Rattle.std.proofs.lemmas.Bool.{cases_eq}
use Rattle.sfm_spec.specs.Rows.{Depends}
use Rattle.sfm_spec.specs.Terms.{SetFunction}
use Rattle.sfm_reach.specs.declared.bits.Bits.{Bits}
use Rattle.sfm_reach.specs.Bits.{bit_in, set_at, blank_bits}
use Rattle.sfm_exchange.specs.Claimed.{AreClaims}
use Rattle.sfm_reach.specs.Reach.{IsRow}
use Rattle.sfm_exchange.specs.Renewed.{AreAsked}
use Rattle.sfm_exchange.proofs.Claiming.{IsRenewing, finds, rows_claimed, true_stays}
use Rattle.sfm_exchange.proofs.RowsAfter.{follows_s}

-- one row asked more, which is another than before
pub asked_more : (places : List ℕ) (f : SetFunction) (x : List ℤ) (changed told after : Bits)
    (k : ℕ) (before mid : List Bits) (row : Bits) → AreAsked places f x changed told k before mid
    → k < length mid → bit_in changed (get_or places k 0) ≡ 1
    → IsRow places f x k row → bit_in after (get_or places k 0) ≡ 1
    → ((e : ℕ) → e ≢ get_or places k 0 → bit_in after e ≡ bit_in told e)
    → AreAsked places f x changed after (k + 1) before (set mid k row)
asked_more places f x changed told after k before mid row h l one is put rest = record {
  count = length-set mid k row ∙ h.count;
  asked = λ u lu here. ⊎_elim
      (λ same. subst (λ v. IsRow places f x v (set_at (set mid k row) v)) (sym same)
      (rw (get_or-set_same mid k row blank_bits l) is))
      (λ ne. rw (get_or-set_other mid k u row blank_bits ne)
      (h.asked u (omega (arith, lu, ne)) here))
      (cases_eq u k);
  inside = λ e has. ⊎_elim (λ same. rw same one) (λ ne. h.inside e (sym (rest e ne) ∙ has))
      (cases_eq e (get_or places k 0));
  others = λ u lu none.
      let ne : get_or places u 0 ≢ get_or places k 0 = λ same. none (rw same put) in
      get_or-set_other mid k u row blank_bits (λ same. ne (rw same refl))
      ∙ h.others u lu (λ has. none (rest (get_or places u 0) ne ∙ has));
}

-- one that is what it was before
pub asked_same : (places : List ℕ) (f : SetFunction) (x : List ℤ) (changed told : Bits) (k : ℕ)
    (before mid : List Bits) (row : Bits) → AreAsked places f x changed told k before mid
    → IsRow places f x k row → ((e : ℕ) → bit_in (set_at mid k) e ≡ bit_in row e)
    → AreAsked places f x changed told (k + 1) before mid
asked_same places f x changed told k before mid row h is same = record {
  count = h.count;
  asked = λ u lu here. ⊎_elim
      (λ at. subst (λ v. IsRow places f x v (set_at mid v)) (sym at) (λ e. rw (same e) (is e)))
      (λ ne. h.asked u (omega (arith, lu, ne)) here)
      (cases_eq u k);
  inside = h.inside;
  others = h.others;
}

-- and one that is not to be asked
pub asked_past : (places : List ℕ) (f : SetFunction) (x : List ℤ) (changed told : Bits) (k : ℕ)
    (before mid : List Bits) → AreAsked places f x changed told k before mid
    → bit_in changed (get_or places k 0) ≢ 1 → AreAsked places f x changed told (k + 1) before mid
asked_past places f x changed told k before mid h none = record {
  count = h.count;
  asked = λ u lu here. h.asked u
      (⊎_elim (λ same. absurd (none (rw (← same) here))) (λ ne. omega (arith, lu, ne))
      (cases_eq u k)) here;
  inside = h.inside;
  others = h.others;
}

-- what others have has been found too
pub of_others : (found others : Bits) (place : ℕ) → bit_in others place ≡ 0
    → ((e : ℕ) → e ≢ place → bit_in others e ≡ bit_in found e) → (e : ℕ) → bit_in others e ≡ 1
    → bit_in found e ≡ 1
of_others found others place out same e one =
    ⊎_elim (λ is. absurd (let none = rw (← is) at out in omega (arith, none, one)))
    (λ ne. sym (same e ne) ∙ one) (cases_eq e place)

module _ {places : List ℕ} {f : SetFunction} {s t : ℕ} {x y : List ℤ} {claimed found : Bits}
    {rows : List Bits} (r : IsRenewing places f s t x y claimed found rows)
    (nothing : (e : ℕ) → bit_in claimed e ≢ 1) where
  row_before : (u : ℕ) → u < length places → IsRow places f x u (set_at rows u)
  row_before u lu = r.claims.exact u lu (nothing (get_or places u 0))

  -- all that were found depend on s
  pub lead_to_s : (u : ℕ) → u < length places → bit_in found (get_or places u 0) ≡ 1
      → Depends f y u s
  lead_to_s u lu one = ⊎_elim (λ is. inl (sym is))
      (λ ne. follows_s r.raising u lu (finds r u lu (row_before u lu) one)) (cases_eq u s)

  module _ (of_s : Bits) (hs : IsRow places f y s of_s) (others : Bits)
      (out : bit_in others (get_or places s 0) ≡ 0)
      (same : (e : ℕ) → e ≢ get_or places s 0 → bit_in others e ≡ bit_in found e)
      (told : Bits) (mid : List Bits)
      (asked : AreAsked places f y others told (length places) (set rows s of_s) mid) where
    apart_at : (u : ℕ) → u < length places → u ≢ s
        → bit_in others (get_or places u 0) ≡ bit_in found (get_or places u 0)
    apart_at u lu ne = same (get_or places u 0)
        (λ is. ne (r.raising.distinct u s lu r.raising.raised is))

    -- a row that is not asked
    row_stays : (u : ℕ) → u < length places → u ≢ s → bit_in found (get_or places u 0) ≢ 1
        → set_at mid u ≡ set_at rows u
    row_stays u lu ne none = asked.others u lu
        (λ one. none (sym (apart_at u lu ne) ∙ asked.inside _ one))
        ∙ get_or-set_other rows s u of_s blank_bits ne

    pub exchange_asked : AreClaims places f y claimed mid
    exchange_asked = rows_claimed places f y claimed mid
        (λ u lu. row u lu (cases_eq u s) (cases_eq (bit_in found (get_or places u 0)) 1)) where
          row : (u : ℕ) → u < length places → (u ≡ s) ⊎ (u ≢ s)
              → (bit_in found (get_or places u 0) ≡ 1)
              ⊎ (bit_in found (get_or places u 0) ≢ 1) → IsRow places f y u (set_at mid u)
          row u lu (inl is) o = rw (
            is,
            asked.others s r.raising.raised
                (λ one. let has = asked.inside _ one in omega (arith, has, out))
                ∙ get_or-set_same rows s of_s blank_bits (rw r.count r.raising.raised),
          ) hs
          row u lu (inr ne) (inl one) = asked.asked u lu (apart_at u lu ne ∙ one)
          row u lu (inr ne) (inr none) =
              rw (row_stays u lu ne none) (true_stays r u lu none (row_before u lu))

    -- the row of another place than s that is not told stays
    pub others_kept : (u : ℕ) → u < length places → u ≢ s → bit_in told (get_or places u 0) ≢ 1
        → set_at mid u ≡ set_at rows u
    others_kept u lu ne none = asked.others u lu none ∙ get_or-set_other rows s u of_s blank_bits ne

    -- what is told was found
    pub told_found : (e : ℕ) → bit_in told e ≡ 1 → bit_in found e ≡ 1
    told_found e one = of_others found others (get_or places s 0) out same e (asked.inside e one)
