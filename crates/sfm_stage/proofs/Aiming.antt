-- The aims of levels, one after the other.
use Rattle.std.proofs.Common.{◌≡◌, ⊎_elim, ℕ, ◌+◌, ◌<◌, ◌≤◌, ◌-◌, min, List, [], ◌∷◌, ◌++◌, length, ℤ, refl, arith}
use Rattle.std.proofs.lemmas.Bool.{cases_lt}
use Rattle.std.proofs.lemmas.List.{length-append}
use Rattle.std.proofs.Math.ListN.{get_or-append}
use Rattle.std.proofs.Math.Seq.{get_or-append_seam}
use Rattle.sfm_reach.specs.declared.bits.Bits.{Bits}
use Rattle.sfm_reach.specs.Bits.{bit_in, set_at, blank_bits}
use Rattle.sfm_reach.proofs.Words.{bit_in-lt}
use Rattle.sfm_exchange.specs.Levels.{IsFirst}
use Rattle.sfm_stage.specs.Aims.{AreAims, IsTop}

-- the aims of the first k levels, and the set that the next ones are taken from
pub record IsAiming (over : Bits) (levels aims : List Bits) (aim : Bits) (k : ℕ) : Type 0 where
  pub count : length aims ≡ k
  pub few : k ≤ length levels
  pub within : (j e : ℕ) → j < k → bit_in (set_at aims j) e ≡ 1 → bit_in (set_at levels j) e ≡ 1
  pub reached : (e : ℕ) → 0 < k → bit_in (set_at aims 0) e ≡ 1 → bit_in over e ≡ 1
  pub begun : k ≡ 0 → aim ≡ over

pub aiming_none : (over : Bits) (levels : List Bits) → IsAiming over levels [] over 0
aiming_none over levels = record {
  count = refl;
  few = omega arith;
  within = λ j e l. absurd (omega (arith, l));
  reached = λ e l. absurd (omega (arith, l));
  begun = λ z. refl;
}

-- those of one level more
pub aiming_more : (over : Bits) (levels aims : List Bits) (aim met next : Bits) (k : ℕ)
    → IsAiming over levels aims aim k → k < length levels
    → ((e : ℕ) → bit_in met e ≡ min (bit_in aim e) (bit_in (set_at levels k) e))
    → IsAiming over levels (aims ++ met ∷ []) next (k + 1)
aiming_more over levels aims aim met next k h lk meets = record {
  count = rw (length-append aims (met ∷ [])) (omega (arith, h.count));
  few = omega (arith, lk);
  within = λ j e l bit. ⊎_elim
      (λ lt. h.within j e lt (rw (old_at j lt) at bit))
      (λ ge. let same : j ≡ k = omega (arith, ge, l) in rw same
      (in_level e (rw (same, new_at) at bit)))
      (cases_lt j k);
  reached = λ e l bit. ⊎_elim
      (λ lt. h.reached e lt (rw (old_at 0 lt) at bit))
      (λ ge. let zero' : k ≡ 0 = omega (arith, ge) in let one = in_aim e
      (rw (new_zero zero') at bit) in rw (h.begun zero') at one)
      (cases_lt 0 k);
  begun = λ z. absurd (omega (arith, z));
} where
  old_at : (j : ℕ) → j < k → set_at (aims ++ met ∷ []) j ≡ set_at aims j
  old_at j l = get_or-append aims (met ∷ []) blank_bits j (let c = h.count in omega (arith, l, c))

  new_at : set_at (aims ++ met ∷ []) k ≡ met
  new_at = rw (← h.count) (get_or-append_seam aims met [] blank_bits)

  new_zero : k ≡ 0 → set_at (aims ++ met ∷ []) 0 ≡ met
  new_zero z = rw z at new_at

  in_aim : (e : ℕ) → bit_in met e ≡ 1 → bit_in aim e ≡ 1
  in_aim e one = let m = meets e in let a = bit_in-lt aim e in let b = bit_in-lt (set_at levels k)
      e in omega (arith, m, a, b, one)

  in_level : (e : ℕ) → bit_in met e ≡ 1 → bit_in (set_at levels k) e ≡ 1
  in_level e one = let m = meets e in let a = bit_in-lt aim e in let b = bit_in-lt (set_at levels k)
      e in omega (arith, m, a, b, one)

pub aiming_all : (over : Bits) (levels aims : List Bits) (aim : Bits) (k : ℕ)
    → IsAiming over levels aims aim k → length levels ≤ k → AreAims over levels aims
aiming_all over levels aims aim k h all = record {
  count = let c = h.count in let f = h.few in omega (arith, c, f, all);
  within = λ j e l. h.within j e (let c = h.count in omega (arith, l, c));
  reached = λ e l. h.reached e (let c = h.count in omega (arith, l, c));
}

-- the first place of a walk is one of the last level
pub first_is_top : {n : ℕ} {unions : List Bits} {z : List ℤ} {levels : List Bits} {first : ℕ}
    → IsFirst n unions z levels first → IsTop n levels first
first_is_top h = record {
  below = h.levelled.below;
  apart = h.levelled.apart;
  further = h.further;
  last = h.last;
}

-- it is a place of the ground
pub top_in : {n : ℕ} {levels : List Bits} {first : ℕ} → IsTop n levels first → first < n
top_in {n} {levels} {first} h =
    let f = h.further in
    let top : length levels - 1 + 1 ≡ length levels = omega (arith, f) in
    h.below (length levels - 1) first (omega (arith, f)) (h.last (length levels - 1) top)
