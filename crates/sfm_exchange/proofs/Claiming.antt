-- Rows that are only claimed after an exchange that raises s and lowers t: each has at least the
-- places of the true one. What comes to a place comes by t and from s, so a row with t that takes
-- in s and a claim of what s had is a claim afterwards.
use Rattle.std.proofs.Common.{◌≡◌, ◌≢◌, ◌⊎◌, ⊎_elim, inl, inr, ℕ, ◌<◌, max, List, length, get_or, set, ℤ, refl, sym, ap, ◌∙◌, arith, get_or-set_same, get_or-set_other}
use Rattle.std.proofs.lemmas.Bool.{cases_eq}
use Rattle.sfm_spec.specs.Sets.{AreDistinct}
use Rattle.sfm_spec.specs.Rows.{Depends}
use Rattle.sfm_spec.specs.Terms.{SetFunction, HasRoom}
use Rattle.sfm_reach.specs.declared.bits.Bits.{Bits}
use Rattle.sfm_reach.specs.Bits.{bit_in, set_at, blank_bits}
use Rattle.sfm_exchange.specs.Claimed.{AreClaims, IsClaim}
use Rattle.sfm_reach.specs.Reach.{IsRow}
use Rattle.sfm_exchange.specs.Renewed.{AreDepending, AreJoined, IsJoined}
use Rattle.sfm_exchange.proofs.RowsAfter.{IsOfTerm, IsRaising, arises_by, row_joined, row_tells, row_untouched, s_depends, stays_with}
use Rattle.sfm_reach.proofs.Words.{bit_in-lt}

-- what is in neither of two sets
pub neither : (s o : Bits) (e c : ℕ) → c ≡ max (bit_in s e) (bit_in o e) → c ≢ 1 → (bit_in s e ≢ 1)
    × (bit_in o e ≢ 1)
neither s o e c is none = let l = bit_in-lt s e in let m = bit_in-lt o
    e in ((λ one. none (omega (arith, is, one, m))), (λ one. none (omega (arith, is, one, l))))

-- a true row is a claim
pub row_claimed : (places : List ℕ) (f : SetFunction) (x : List ℤ) (u : ℕ) (row : Bits)
    → IsRow places f x u row → IsClaim places f x u row
row_claimed places f x u row h = record {
  has = λ v lv ne room. (h (get_or places v 0)).1 (v, lv, ne, room, refl);
  inside = λ e one. let (v, lv, ne, room, is) = (h e).0 one in (v, lv, ne, is);
}

-- and so are all rows of a term, whatever is claimed
pub rows_claimed : (places : List ℕ) (f : SetFunction) (x : List ℤ) (claimed : Bits)
    (rows : List Bits) → ((u : ℕ) → u < length places → IsRow places f x u (set_at rows u))
    → AreClaims places f x claimed rows
rows_claimed places f x claimed rows h =
    record {
      claims = λ u lu. row_claimed places f x u (set_at rows u) (h u lu);
      exact = λ u lu none. h u lu;
    }

-- a true row put in the place of a claim
pub claims_asked : (places : List ℕ) (distinct : AreDistinct places) (f : SetFunction) (x : List ℤ)
    (claimed claimed' : Bits) (rows : List Bits) (s : ℕ) (row : Bits) → s < length places
    → s < length rows → AreClaims places f x claimed rows → IsRow places f x s row
    → ((e : ℕ) → e ≢ get_or places s 0 → bit_in claimed' e ≡ bit_in claimed e)
    → AreClaims places f x claimed' (set rows s row)
claims_asked places distinct f x claimed claimed' rows s row ls inside h is same =
    record {
      claims = λ u lu. claim u lu (cases_eq u s);
      exact = λ u lu none. right u lu none (cases_eq u s);
    } where
      claim : (u : ℕ) → u < length places → (u ≡ s) ⊎ (u ≢ s)
          → IsClaim places f x u (set_at (set rows s row) u)
      claim u lu (inl here) = rw (here, get_or-set_same rows s row blank_bits inside)
          (row_claimed places f x s row is)
      claim u lu (inr ne) = rw (get_or-set_other rows s u row blank_bits ne) (h.claims u lu)

      right : (u : ℕ) → u < length places → bit_in claimed' (get_or places u 0) ≢ 1 → (u ≡ s)
          ⊎ (u ≢ s)
          → IsRow places f x u (set_at (set rows s row) u)
      right u lu none (inl here) = rw (here, get_or-set_same rows s row blank_bits inside) is
      right u lu none (inr ne) = rw (get_or-set_other rows s u row blank_bits ne)
          (h.exact u lu (λ one. none (same (get_or places u 0) (λ q. ne (distinct u s lu ls q))
          ∙ one)))

module _ {places : List ℕ} {f : SetFunction} {s t : ℕ} {x y : List ℤ}
    (m : IsRaising places f s t x y) where
  -- a claim has what its place depends on
  claim_has : (u : ℕ) (row : Bits) → IsClaim places f x u row → (w : ℕ) → w < length places → w ≢ u
      → Depends f x u w → bit_in row (get_or places w 0) ≡ 1
  claim_has u row h w lw ne (inl same) = absurd (ne same)
  claim_has u row h w lw ne (inr room) = h.has w lw ne room

  -- a claim without t is one afterwards
  claim_stays : (u : ℕ) (row : Bits) → u < length places → u ≢ t
      → bit_in row (get_or places t 0) ≢ 1 → IsClaim places f x u row → IsClaim places f y u row
  claim_stays u row lu other none h = record { has = has; inside = h.inside } where
    has : (v : ℕ) → v < length places → v ≢ u → HasRoom f y u v → bit_in row (get_or places v 0) ≡ 1
    has v lv ne room = ⊎_elim (λ old. claim_has u row h v lv ne old)
        (λ both. absurd (none (claim_has u row h t m.lowered (λ same. other (sym same)) both.0)))
        (arises_by m u v lu lv (inr room))

  -- a claim that takes in a claim of s as it was before, and s, is one afterwards
  claim_joined : (u : ℕ) (row of_s new : Bits) → u < length places → IsClaim places f x u row
      → IsClaim places f x s of_s → IsJoined row of_s (get_or places s 0) (get_or places u 0) new
      → IsClaim places f y u new
  claim_joined u row of_s new lu h hs is = record { has = has; inside = inside } where
    has : (v : ℕ) → v < length places → v ≢ u → HasRoom f y u v → bit_in new (get_or places v 0) ≡ 1
    has v lv ne room = (is (get_or places v 0)).1
        ((λ same. ne (m.distinct v u lv lu same)), by (arises_by m u v lu lv (inr room))) where
          from_s : (v ≡ s) ⊎ (v ≢ s) → Depends f x s v → (bit_in row (get_or places v 0) ≡ 1)
              ⊎ (bit_in of_s (get_or places v 0) ≡ 1) ⊎ (get_or places v 0 ≡ get_or places s 0)
          from_s (inl same) d = inr (inr (ap (λ z. get_or places z 0) same))
          from_s (inr other) d = inr (inl (claim_has s of_s hs v lv other d))

          by : Depends f x u v ⊎ (Depends f x u t × Depends f x s v)
              → (bit_in row (get_or places v 0) ≡ 1) ⊎ (bit_in of_s (get_or places v 0) ≡ 1)
              ⊎ (get_or places v 0 ≡ get_or places s 0)
          by (inl old) = inl (claim_has u row h v lv ne old)
          by (inr both) = from_s (cases_eq v s) both.1

    inside : (e : ℕ) → bit_in new e ≡ 1 → (v : ℕ) × (v < length places) × (v ≢ u)
        × (get_or places v 0 ≡ e)
    inside e one = at ((is e).0 one) where
      own : (v : ℕ) → e ≢ get_or places u 0 → get_or places v 0 ≡ e → v ≢ u
      own v ne at same = ne (sym at ∙ ap (λ z. get_or places z 0) same)

      at : (e ≢ get_or places u 0) × ((bit_in row e ≡ 1) ⊎ (bit_in of_s e ≡ 1)
          ⊎ (e ≡ get_or places s 0)) → (v : ℕ) × (v < length places) × (v ≢ u)
          × (get_or places v 0 ≡ e)
      at (ne, inl old) = h.inside e old
      at (ne, inr (inl more)) = let (v, lv, other, here) = hs.inside e
          more in (v, lv, own v ne here, here)
      at (ne, inr (inr same)) = (s, m.raised, own s ne (sym same), sym same)

  -- where s has t still, its row afterwards is a claim before
  claim_before : (of_s : Bits) → IsRow places f y s of_s → bit_in of_s (get_or places t 0) ≡ 1
      → IsClaim places f x s of_s
  claim_before of_s hs bit = record {
    has = has;
    inside = (row_claimed places f y s of_s hs).inside;
  } where
    s_still : Depends f y s t
    s_still = ((row_tells places m.distinct y s of_s hs t m.lowered).0 bit).1

    has : (v : ℕ) → v < length places → v ≢ s → HasRoom f x s v
        → bit_in of_s (get_or places v 0) ≡ 1
    has v lv ne room = (row_tells places m.distinct y s of_s hs v lv).1
        (ne, (stays_with m s v m.raised lv (s_depends m) s_still).1 (inl (inr room)))

-- the same, where the rows of x are claims, and the places are found that depended on t
pub record IsRenewing (places : List ℕ) (f : SetFunction) (s t : ℕ) (x y : List ℤ)
    (claimed found : Bits) (rows : List Bits) : Type 0 where
  pub raising : IsRaising places f s t x y
  pub claims : AreClaims places f x claimed rows
  pub count : length rows ≡ length places
  pub all : AreDepending places rows t (length places) found

module _ {places : List ℕ} {f : SetFunction} {s t : ℕ} {x y : List ℤ} {claimed found : Bits}
    {rows : List Bits} (r : IsRenewing places f s t x y claimed found rows) where
  -- the places that were found are the term's
  pub found_inside : IsOfTerm places found
  found_inside e one = let (u, lu, is, why) = (r.all e).0 one in (u, lu, is)

  -- a row that was not found lacks t
  lacks : (u : ℕ) → u < length places → bit_in found (get_or places u 0) ≢ 1 → (u ≢ t)
      × (bit_in (set_at rows u) (get_or places t 0) ≢ 1)
  lacks u lu none = (
    (λ same. none ((r.all (get_or places u 0)).1 (u, lu, refl, inl same))),
    (λ one. none ((r.all (get_or places u 0)).1 (u, lu, refl, inr one))),
  )

  -- and one that was found has it
  pub finds : (u : ℕ) → u < length places → IsRow places f x u (set_at rows u)
      → bit_in found (get_or places u 0) ≡ 1 → Depends f x u t
  finds u lu row one = let (v, lv, is, o) = (r.all (get_or places u 0)).0 one in at
      (r.raising.distinct v u lv lu is) o where
        at : {v : ℕ} → v ≡ u → (v ≡ t) ⊎ (bit_in (set_at rows v) (get_or places t 0) ≡ 1)
            → Depends f x u t
        at same (inl here) = inl (sym here ∙ same)
        at same (inr bit) =
            ((row_tells places r.raising.distinct x u (set_at rows u) row t r.raising.lowered).0
            (rw same at bit)).1

  -- a true row that was not found stays true
  pub true_stays : (u : ℕ) → u < length places → bit_in found (get_or places u 0) ≢ 1
      → IsRow places f x u (set_at rows u) → IsRow places f y u (set_at rows u)
  true_stays u lu none row = row_untouched r.raising u (set_at rows u) lu lone row where
    lone : Depends f x u t → ⊥
    lone (inl same) = (lacks u lu none).0 (sym same)
    lone (inr room) = (lacks u lu none).1
        ((r.claims.claims u lu).has t r.raising.lowered (λ same. (lacks u lu none).0 (sym same))
        room)

  -- as that of s was
  pub finds_s : bit_in found (get_or places s 0) ≡ 1
  finds_s =
      let m = r.raising in
      (r.all (get_or places s 0)).1 (
        s,
        m.raised,
        refl,
        inr (claim_has m s (set_at rows s) (r.claims.claims s m.raised) t
            m.lowered (λ same. m.apart (sym same)) (s_depends m)),
      )

  module _ (of_s : Bits) (hs : IsRow places f y s of_s) where
    -- the rows that were found have taken in one that is a claim of s
    module _ (more : Bits) (claim_s : IsClaim places f x s more) (mid : List Bits)
        (j : AreJoined places found more (get_or places s 0) (length places) rows mid) where
      inside : s < length mid
      inside = rw (j.count, r.count) r.raising.raised

      claims_after : (claimed' : Bits)
          → ((e : ℕ) → e ≢ get_or places s 0 → bit_in claimed' e ≢ 1 → bit_in claimed e ≢ 1)
          → ((u : ℕ) → u < length places → bit_in claimed' (get_or places u 0) ≢ 1 → u ≢ s
          → IsRow places f x u (set_at rows u) → bit_in found (get_or places u 0) ≡ 1
          → IsRow places f y u (set_at mid u)) → AreClaims places f y claimed' (set mid s of_s)
      claims_after claimed' kept joins =
          record {
            claims = λ u lu. claim u lu (cases_eq u s)
                (cases_eq (bit_in found (get_or places u 0)) 1);
            exact = λ u lu none. right u lu none (cases_eq u s)
                (cases_eq (bit_in found (get_or places u 0)) 1);
          } where
            claim : (u : ℕ) → u < length places → (u ≡ s) ⊎ (u ≢ s)
                → (bit_in found (get_or places u 0) ≡ 1) ⊎ (bit_in found (get_or places u 0) ≢ 1)
                → IsClaim places f y u (set_at (set mid s of_s) u)
            claim u lu (inl same) o = rw (same, get_or-set_same mid s of_s blank_bits inside)
                (row_claimed places f y s of_s hs)
            claim u lu (inr ne) (inl one) =
                rw (get_or-set_other mid s u of_s blank_bits ne)
                (claim_joined r.raising u (set_at rows u) more (set_at mid u) lu
                (r.claims.claims u lu)
                claim_s (j.joined u lu one))
            claim u lu (inr ne) (inr none) =
                let l = lacks u lu none in rw (
                  get_or-set_other mid s u of_s blank_bits ne,
                  j.others u lu none,
                ) (claim_stays r.raising u (set_at rows u) lu l.0 l.1
                (r.claims.claims u lu))

            before : (u : ℕ) → u < length places → u ≢ s → bit_in claimed' (get_or places u 0) ≢ 1
                → IsRow places f x u (set_at rows u)
            before u lu ne out = r.claims.exact u lu
                (kept (get_or places u 0) (λ is. ne (r.raising.distinct u s lu r.raising.raised is))
                out)

            right : (u : ℕ) → u < length places → bit_in claimed' (get_or places u 0) ≢ 1 → (u ≡ s)
                ⊎ (u ≢ s) → (bit_in found (get_or places u 0) ≡ 1)
                ⊎ (bit_in found (get_or places u 0) ≢ 1)
                → IsRow places f y u (set_at (set mid s of_s) u)
            right u lu out (inl same) o = rw (same, get_or-set_same mid s of_s blank_bits inside) hs
            right u lu out (inr ne) (inl one) =
                rw (get_or-set_other mid s u of_s blank_bits ne)
                (joins u lu out ne (before u lu ne out) one)
            right u lu out (inr ne) (inr none) =
                rw (get_or-set_other mid s u of_s blank_bits ne, j.others u lu none)
                (true_stays u lu none (before u lu ne out))

    -- where s has t still, true rows that take in its row stay true
    pub exchange_still : (mid : List Bits)
        → AreJoined places found of_s (get_or places s 0) (length places) rows mid
        → bit_in of_s (get_or places t 0) ≡ 1
        → (claimed' : Bits) → ((e : ℕ) → e ≢ get_or places s 0
        → bit_in claimed' e ≡ bit_in claimed e) → AreClaims places f y claimed' (set mid s of_s)
    exchange_still mid j bit claimed' same =
        claims_after of_s (claim_before r.raising of_s hs bit) mid j claimed'
        (λ e ne out one. out (same e ne ∙ one))
        (λ u lu out ne row one. row_joined r.raising u (set_at rows u) of_s (set_at mid u) lu
        (finds u lu row one) row hs bit (j.joined u lu one))

    -- else all that take in the old row of s are claimed
    pub exchange_more : (mid : List Bits)
        → AreJoined places found (set_at rows s) (get_or places s 0) (length places) rows mid
        → (claimed' : Bits) → ((e : ℕ) → e ≢ get_or places s 0 → bit_in claimed' e ≢ 1
        → (bit_in claimed e ≢ 1) × (bit_in found e ≢ 1))
        → AreClaims places f y claimed' (set mid s of_s)
    exchange_more mid j claimed' out =
        claims_after (set_at rows s) (r.claims.claims s r.raising.raised) mid j claimed'
        (λ e ne none. (out e ne none).0)
        (λ u lu none ne row one.
        absurd ((out (get_or places u 0)
        (λ is. ne (r.raising.distinct u s lu r.raising.raised is)) none).1 one))

    -- where a place was not found its row stays
    pub others_stay : (more : Bits) (mid : List Bits)
        → AreJoined places found more (get_or places s 0) (length places) rows mid → (u : ℕ)
        → u < length places → bit_in found (get_or places u 0) ≢ 1
        → set_at (set mid s of_s) u ≡ set_at rows u
    others_stay more mid j u lu none =
        get_or-set_other mid s u of_s blank_bits (λ same. none (rw same finds_s))
        ∙ j.others u lu none
