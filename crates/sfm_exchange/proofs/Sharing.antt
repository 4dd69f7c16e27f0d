-- Rows that are that of the place that was raised, after an exchange: those of the places that
-- depend on it and on which it depends.
use Rattle.std.proofs.Common.{◌≡◌, ◌≢◌, ◌↔◌, ⊎_elim, inl, inr, ℕ, ◌<◌, ◌-◌, max, List, length, get_or, ℤ, ◌∙◌, arith}
use Rattle.std.proofs.lemmas.Bool.{cases_eq}
use Rattle.sfm_spec.specs.Rows.{Depends}
use Rattle.sfm_spec.specs.Terms.{SetFunction}
use Rattle.sfm_reach.specs.declared.bits.Bits.{Bits}
use Rattle.sfm_exchange.specs.declared.renewing.Changes.{Changes}
use Rattle.sfm_exchange.specs.declared.renewing.Raised.{Raised}
use Rattle.sfm_reach.specs.Bits.{bit_in, set_at}
use Rattle.sfm_exchange.specs.Claimed.{AreClaims}
use Rattle.sfm_reach.specs.Reach.{IsRow}
use Rattle.sfm_exchange.specs.Renewed.{AreChanges, AreShared, IsRaised}
use Rattle.sfm_exchange.proofs.Claiming.{IsRenewing, finds, found_inside, row_claimed}
use Rattle.sfm_exchange.proofs.RowsAfter.{IsOfTerm, IsRaising, follows_s, row_shared}
use Rattle.sfm_reach.proofs.Words.{bit_in-lt}

module _ (places : List ℕ) (shared : Bits) (raised : Raised) (before after : List Bits)
    (h : AreShared places shared raised (length places) before after) where
  -- these rows are true ones, and the others are what they were
  pub claims_shared : {f : SetFunction} {s t : ℕ} {x y : List ℤ} → IsRaising places f s t x y
      → IsRaised places f y raised
      → ((u : ℕ) → u < length places → bit_in shared (get_or places u 0) ≡ 1
      → Depends f y u raised.local × (bit_in raised.row (get_or places u 0) ≡ 1))
      → (claimed claimed' : Bits) → ((e : ℕ)
      → bit_in claimed' e ≡ bit_in claimed e - bit_in shared e)
      → AreClaims places f y claimed before → AreClaims places f y claimed' after
  claims_shared {f} {y} m r both claimed claimed' less claims = record {
    claims = λ u lu. ⊎_elim
        (λ one. row_claimed places f y u (set_at after u) (row u lu one))
        (λ none. rw (h.others u lu none) (claims.claims u lu))
        (cases_eq (bit_in shared (get_or places u 0)) 1);
    exact = λ u lu out. ⊎_elim
        (λ one. row u lu one)
        (λ none. rw (h.others u lu none)
        (claims.exact u lu (λ old. out
        (let l = less (get_or places u 0) in let m = bit_in-lt shared
        (get_or places u 0) in omega (arith, l, m, old, none)))))
        (cases_eq (bit_in shared (get_or places u 0)) 1);
  } where
    row : (u : ℕ) → u < length places → bit_in shared (get_or places u 0) ≡ 1
        → IsRow places f y u (set_at after u)
    row u lu one =
        let (d, bit) = both u lu one in
        row_shared places m.distinct m.family m.law y m.entries m.base raised.local u raised.row
        (set_at after u) r.within lu r.row_is d bit (rw r.place_is (h.shared_is u lu one))

  -- they may be any, where others have grown
  pub changes_shared : (rows : List Bits) (changes changes' : Changes)
      → ((e : ℕ) → bit_in changes'.grown e ≡ bit_in changes.grown e - bit_in shared e)
      → ((e : ℕ) → bit_in changes'.anew e ≡ max (bit_in changes.anew e) (bit_in shared e))
      → IsOfTerm places shared → AreChanges places changes rows before
      → AreChanges places changes' rows after
  changes_shared rows changes changes' grown anew inside c = record {
    inside = λ e. ⊎_elim
        (λ one. c.inside e
        (inl (let g = grown e in let l = bit_in-lt changes.grown
        e in omega (arith, g, l, one))))
        (λ one. ⊎_elim (λ is. inside e is)
        (λ none. c.inside e
        (inr (let a = anew e in let l = bit_in-lt changes.anew e in let m = bit_in-lt shared
        e in omega (arith, a, l, m, one, none)))) (cases_eq (bit_in shared e) 1));
    grown = λ u t lu one bit.
        let e = get_or places u 0 in
        let none : bit_in shared e ≢ 1 = λ is. let g = grown e in let l = bit_in-lt changes.grown
        e in omega (arith, g, l, one, is) in
        rw (h.others u lu none) (c.grown u t lu
        (let g = grown e in let l = bit_in-lt changes.grown e in omega (arith, g, l, one)) bit);
    others = λ u lu out not.
        let e = get_or places u 0 in
        let none : bit_in shared e ≢ 1 = λ is.
        not (let a = anew e in let l = bit_in-lt changes'.anew e in omega (arith, a, l, is)) in
        h.others u lu none ∙ c.others u lu
        (λ g1. out (let g = grown e in let m = bit_in-lt shared
        e in omega (arith, g, m, g1, none)))
        (λ a1. not (let a = anew e in let l = bit_in-lt changes'.anew
        e in omega (arith, a, l, a1)));
  }

-- places that changed, were not claimed, and on which the raised one depends: they depend on it too
module _ {places : List ℕ} {f : SetFunction} {s t : ℕ} {x y : List ℤ} {claimed found : Bits}
    {rows : List Bits} (r : IsRenewing places f s t x y claimed found rows) (of_s shared : Bits)
    (told : (e : ℕ) → (bit_in shared e ≡ 1)
    ↔ ((bit_in found e ≡ 1) × (bit_in of_s e ≡ 1) × (bit_in claimed e ≢ 1))) where
  pub shared_lead : (u : ℕ) → u < length places → bit_in shared (get_or places u 0) ≡ 1
      → Depends f y u s × (bit_in of_s (get_or places u 0) ≡ 1)
  shared_lead u lu one =
      let (has, bit, exact) = (told (get_or places u 0)).0 one in
      (follows_s r.raising u lu (finds r u lu (r.claims.exact u lu exact) has), bit)

  pub shared_inside : IsOfTerm places shared
  shared_inside e one = found_inside r e ((told e).0 one).0
