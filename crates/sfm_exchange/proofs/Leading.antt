-- The places that lead into a level, by the rows turned round.
use Rattle.std.proofs.Common.{◌≡◌, ⊎_elim, ℕ, ◌+◌, ◌-◌, ◌<◌, ◌≤◌, max, List, length, ℤ, sym, ◌∙◌, arith}
use Rattle.std.proofs.lemmas.Bool.{cases_eq}
use Rattle.sfm_reach.specs.declared.bits.Bits.{Bits}
use Rattle.sfm_reach.specs.Bits.{bit_in, set_at, IsTaken}
use Rattle.sfm_reach.specs.Turned.{AreTurned}
use Rattle.sfm_reach.proofs.Words.{bit_in-lt}
use Rattle.sfm_exchange.specs.Levels.{AreNext, IsLedBack, LeadsInto}
use Rattle.sfm_exchange.proofs.Levelling.{IsLevelling, IsNextTo}

-- what the sets of a place tell
pub led_back : (rows back : List Bits) (level : Bits) (e : ℕ) → AreTurned rows back
    → IsLedBack back e level → LeadsInto rows e level
led_back rows back level e h (t, l, bit, one) = (t, sym (h.exact e t l) ∙ bit, one)

pub leads_back : (rows back : List Bits) (level : Bits) (e : ℕ) → AreTurned rows back
    → ((t : ℕ) → bit_in level t ≡ 1 → t < 256) → LeadsInto rows e level → IsLedBack back e level
leads_back rows back level e h inside (t, bit, one) =
    let l = inside t one in (t, l, h.exact e t l ∙ bit, one)

-- the sets of some places of a level, joined
pub record IsJoining (back : List Bits) (level ahead leading : Bits) : Type 0 where
  pub inside : (t : ℕ) → bit_in ahead t ≤ bit_in level t
  pub from : (e : ℕ) → bit_in leading e ≡ 1 → IsLedBack back e level
  pub to : (e t : ℕ) → t < 256 → bit_in level t ≡ 1 → bit_in ahead t ≡ 0
      → bit_in (set_at back t) e ≡ 1 → bit_in leading e ≡ 1

pub joining_begun : (back : List Bits) (level ahead leading : Bits)
    → ((t : ℕ) → bit_in ahead t ≡ bit_in level t) → ((e : ℕ) → bit_in leading e ≡ 0)
    → IsJoining back level ahead leading
joining_begun back level ahead leading all none = record {
  inside = λ t. let a = all t in omega (arith, a);
  from = λ e one. absurd (let z = none e in omega (arith, z, one));
  to = λ e t l one out bit. absurd (let a = all t in omega (arith, a, one, out));
}

pub joining_more : (back : List Bits) (level ahead ahead' leading leading' : Bits) (t : ℕ)
    → IsJoining back level ahead leading → IsTaken ahead t ahead'
    → ((e : ℕ) → bit_in leading' e ≡ max (bit_in leading e) (bit_in (set_at back t) e))
    → IsJoining back level ahead' leading'
joining_more back level ahead ahead' leading leading' t h taken joined = record {
  inside = λ k. ⊎_elim (λ same. rw same (omega (arith, taken.out)))
      (λ ne. let i = h.inside k in let r = taken.others k ne in omega (arith, i, r)) (cases_eq k t);
  from = λ e bit. ⊎_elim
      (λ old. h.from e old)
      (λ other. let m = joined e in let a = bit_in-lt leading e in let b = bit_in-lt (set_at back t)
      e in (
        t,
        taken.below,
        omega (arith, m, a, b, other, bit),
        (let i = h.inside t in let l = bit_in-lt level t in omega (arith, i, l, taken.had)),
      ))
      (cases_eq (bit_in leading e) 1);
  to = λ e k l has none bit. let m = joined e in let a = bit_in-lt leading e in let b = bit_in-lt
      (set_at back t) e in ⊎_elim
      (λ same. let here : bit_in (set_at back t) e ≡ 1 = rw same at
      bit in omega (arith, m, a, here))
      (λ ne. let old = h.to e k l has (sym (taken.others k ne) ∙ none)
      bit in omega (arith, m, b, old))
      (cases_eq k t);
}

-- the next level, by the sets of those that lead to a place
pub next_to : {rows back : List Bits} {level left left' next : Bits} {n : ℕ} {z : List ℤ}
    {levels : List Bits} → n ≤ 256 → AreTurned rows back → IsLevelling n rows z levels level left
    → AreNext back level left left' next → IsNextTo rows level left left' next n
next_to {level = level} {left = left} {n = n} {levels = levels} few h so_far a = record {
  parted = a.parted;
  below = λ e one. ((so_far.rest e).0
      (let p = a.parted e in let l = bit_in-lt left e in omega (arith, p, l, one))).0;
  leads = λ e one. led_back _ _ _ e h (a.leads e one);
  closed = λ e l into. a.closed e (leads_back _ _ _ e h inside into);
} where
  inside : (t : ℕ) → bit_in level t ≡ 1 → t < 256
  inside t one =
      let some = so_far.levelled.some in
      let last : length levels - 1 + 1 ≡ length levels = omega (arith, some) in
      let l = so_far.levelled.below (length levels - 1) t (omega (arith, some))
      (rw (so_far.top (length levels - 1) last) one) in
      omega (arith, l, few)
