-- The rows that a note keeps: as an exchange is owed, as claims are asked, and as a column is read
-- off them.
use Rattle.std.proofs.Common.{◌≡◌, ◌≢◌, ◌⊎◌, ◌↔◌, ℕ, ◌<◌, Bool, List, length, get_or, ℤ, pos, ◌≤ℤ◌, Some, None, refl, sym, subst, ◌∙◌, inl, inr, arith}
use Rattle.std.proofs.lemmas.Bool.{cases_eq}
use Rattle.std.proofs.lemmas.Int.{ints}
use Rattle.std.proofs.lemmas.List.{ext_get_or}
use Rattle.sfm_spec.specs.Sets.{Has, AreDistinct}
use Rattle.sfm_spec.specs.Terms.{SetFunction, times, IsFamily, IsSubmodular, IsBase, HasRoom, exchanged}
use Rattle.sfm_spec.proofs.Sums.{length-exchanged}
use Rattle.sfm_spec.proofs.MoveOrder.{exchanged-first, exchanged-second, exchanged-other}
use Rattle.sfm_law.specs.Room.{IsReach}
use Rattle.sfm_kind.specs.Meanings.{kind_places}
use Rattle.sfm_kind.specs.Kinds.{kind_value}
use Rattle.sfm_kind.specs.declared.kind.Kind.{Kind}
use Rattle.sfm_reach.specs.declared.bits.Bits.{Bits}
use Rattle.sfm_reach.specs.Bits.{bit_in, set_at}
use Rattle.sfm_exchange.specs.Claimed.{AreClaims}
use Rattle.sfm_exchange.specs.Renewed.{AreClaimsBefore}
use Rattle.sfm_flip.specs.declared.note.FlipNote.{FlipNote}
use Rattle.sfm_flip.specs.declared.note.Owed.{Owed}
use Rattle.sfm_flip.specs.Flipped.{flipped, negated}
use Rattle.sfm_flip.specs.FlipLaws.{length-negated}
use Rattle.sfm_flip.specs.Known.{AreKept, AreTrueAt, IsColumn, IsNoted, IsSettled}
use Rattle.sfm_flip.proofs.Turning.{flip-has}

-- ---- what is owed

-- where nothing is owed the rows are those of the base
pub settled_noted : (kind : Kind) (q : ℤ) (note : FlipNote) → IsNoted kind q note → note.owed ≡ None
    → IsSettled kind q note
settled_noted kind q note h none = record {
  inner = h.inner;
  count = h.count;
  claims = subst (AreKept (kind_places kind) (times q (kind_value kind)) note.base note.claimed
      note.rows) none h.rows;
  nothing = none;
}

pub noted_settled : (kind : Kind) (q : ℤ) (note : FlipNote) → IsSettled kind q note
    → IsNoted kind q note
noted_settled kind q note h = record {
  inner = h.inner;
  count = h.count;
  rows = subst (AreKept (kind_places kind) (times q (kind_value kind)) note.base note.claimed
      note.rows) (sym h.nothing) h.claims;
}

-- the exchange that is owed, where one is
pub owed_noted : (kind : Kind) (q : ℤ) (note : FlipNote) (owed : Owed) → IsNoted kind q note
    → note.owed ≡ Some owed
    → AreClaimsBefore (kind_places kind) (times q (kind_value kind)) note.base owed.raised
    owed.lowered note.claimed note.rows
owed_noted kind q note owed h some =
    subst (AreKept (kind_places kind) (times q (kind_value kind)) note.base note.claimed note.rows)
    some h.rows

-- nothing is exchanged
pub exchanged-nothing : (x : List ℤ) (u v : ℕ) → u < length x → v < length x → u ≢ v
    → exchanged x u v (pos 0) ≡ x
exchanged-nothing x u v lu lv ne =
    ext_get_or (pos 0) (exchanged x u v (pos 0)) x (length-exchanged x u v (pos 0))
    (λ j lj. at j (cases_eq j u) (cases_eq j v)) where
      at : (j : ℕ) → (j ≡ u) ⊎ (j ≢ u) → (j ≡ v) ⊎ (j ≢ v)
          → get_or (exchanged x u v (pos 0)) j (pos 0) ≡ get_or x j (pos 0)
      at j (inl ju) jv = let e = exchanged-first x u v (pos 0) lu ne in rw ju
          (omega (arith, ints, e))
      at j (inr nu) (inl jv) = let e = exchanged-second x u v (pos 0) lv in rw jv
          (omega (arith, ints, e))
      at j (inr nu) (inr nv) = exchanged-other x u v j (pos 0) nu nv

-- an exchange of something is owed at the base to which it leads
pub owed_after : (places : List ℕ) (f : SetFunction) (x : List ℤ) (s t : ℕ) (a : ℤ) (claimed : Bits)
    (rows : List Bits) → IsBase f x → s < length x → t < length x → s ≢ t → pos 1 ≤ℤ a
    → AreClaims places f x claimed rows → AreClaimsBefore places f (exchanged x s t a) s t claimed
    rows
owed_after places f x s t a claimed rows base ls lt apart some claims = record {
  pair = record {
    apart = apart;
    from = rw (length-exchanged x s t a) ls;
    onto = rw (length-exchanged x s t a) lt;
  };
  before = x;
  came = record { base = base; amount = a; some = some; is = refl };
  claims = claims;
}

-- ---- a column

-- read off rows that are claims, of which those that have the place are true ones
pub column_is : (places : List ℕ) (f : SetFunction) (x : List ℤ) (claimed : Bits) (rows : List Bits)
    (u : ℕ) (s : List Bool) → AreDistinct places → length x ≡ length places
    → AreClaims places f x claimed rows
    → AreTrueAt places f x rows (get_or places u 0) (length x) → u < length x
    → ((v : ℕ) → v < length places → Has s v ↔ (bit_in (set_at rows v) (get_or places u 0) ≡ 1))
    → IsColumn f x u s
column_is places f x claimed rows u s distinct sized claims right lu column v lv =
    (there, back) where
      inside : u < length places
      inside = rw (← sized) lu

      here : v < length places
      here = rw (← sized) lv

      there : Has s v → (v ≢ u) × HasRoom f x v u
      there has =
          let bit = (column v here).0 has in
          let (w, lw, ne, room, is) = (right v lv bit (get_or places u 0)).0 bit in
          let same : w ≡ u = distinct w u lw inside is in
          ((λ own. ne (same ∙ sym own)), rw same at room)

      back : (v ≢ u) × HasRoom f x v u → Has s v
      back (ne, room) = (column v here).1
          ((claims.claims v here).has u inside (λ own. ne (sym own)) room)

-- the column of the term at the negated base is the row of the term turned round
module _ (k : ℕ) (f : SetFunction) (family : IsFamily k f) (law : IsSubmodular k f) (q : ℤ)
    (low : pos 1 ≤ℤ q) where
  pub reach_is : (y : List ℤ) (u : ℕ) (s : List Bool) → length y ≡ k → u < length y
      → length s ≡ length y → IsColumn (times q f) (negated y) u s
      → IsReach (times q (flipped k f)) y u s
  reach_is y u s sized lu places column = record {
    places = places;
    exact = λ v lv. (there v lv, back v lv);
  } where
    at : (v : ℕ) → v < length y → Has s v ↔ ((v ≢ u) × HasRoom (times q f) (negated y) v u)
    at v lv = column v (rw (length-negated y) lv)

    there : (v : ℕ) → v < length y → Has s v → (v ≢ u) × HasRoom (times q (flipped k f)) y u v
    there v lv has = let (ne, room) = (at v lv).0
        has in (ne, (flip-has k f family law q low y sized u v lu lv (λ own. ne (sym own))).0 room)

    back : (v : ℕ) → v < length y → (v ≢ u) × HasRoom (times q (flipped k f)) y u v → Has s v
    back v lv (ne, room) = (at v lv).1
        (ne, (flip-has k f family law q low y sized u v lu lv (λ own. ne (sym own))).1 room)
