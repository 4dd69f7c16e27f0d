-- The sets of places by the sign of z, and z as it is moved.
use Rattle.std.proofs.Common.{◌≡◌, ◌≢◌, ⊎_elim, ◌↔◌, ℕ, ◌<◌, ◌-◌, List, length, get_or, ℤ, pos, neg_ℤ, ◌≤ℤ◌, ◌<ℤ◌, arith}
use Rattle.std.proofs.lemmas.Bool.{cases_eq}
use Rattle.std.proofs.lemmas.Int.{ints, by_lt_z}
use Rattle.sfm_spec.specs.Terms.{exchanged}
use Rattle.sfm_spec.proofs.MoveOrder.{exchanged-first, exchanged-second, exchanged-other}
use Rattle.sfm_spec.proofs.Sums.{length-exchanged}
use Rattle.sfm_reach.specs.declared.bits.Bits.{Bits}
use Rattle.sfm_exchange.specs.declared.signs.Signs.{Signs}
use Rattle.sfm_reach.specs.Bits.{bit_in}
use Rattle.sfm_exchange.specs.Signs.{AreMoved, AreSigns}
use Rattle.sfm_reach.proofs.Words.{bit_in-lt}

-- the ground without the places with z > 0
pub others_left : (z : List ℤ) (signs : Signs) (left : Bits) → AreSigns z signs
    → ((e : ℕ) → bit_in left e ≡ bit_in signs.ground e - bit_in signs.over e)
    → (e : ℕ) → (bit_in left e ≡ 1) ↔ ((e < length z) × (get_or z e (pos 0) ≤ℤ pos 0))
others_left z signs left h is e = (
  (λ one.
      let i = is e in
      let lg = bit_in-lt signs.ground e in
      let l = (h.whole e).0 (omega (arith, i, one, lg)) in (
        l,
        by_lt_z (pos 0) (get_or z e (pos 0))
            (λ lt. let o = (h.above e).1 (l, lt) in absurd (omega (arith, i, one, o, lg)))
            (λ le. le),
      )),
  (λ (l, le).
      let i = is e in
      let g = (h.whole e).1 l in
      let lo = bit_in-lt signs.over e in
      ⊎_elim (λ one. let o = ((h.above e).0 one).1 in absurd (omega (arith, ints, le, o)))
      (λ ne. omega (arith, i, g, lo, ne)) (cases_eq (bit_in signs.over e) 1)),
)

-- z as a walk moves it at its ends
pub moved_ends : (z : List ℤ) (first last : ℕ) (a : ℤ) → first < length z → last < length z
    → first ≢ last → get_or z first (pos 0) <ℤ pos 0 → pos 0 <ℤ get_or z last (pos 0)
    → a ≤ℤ neg_ℤ (get_or z first (pos 0)) → a ≤ℤ get_or z last (pos 0)
    → AreMoved z (exchanged z first last a) first last
moved_ends z first last a lf ll apart under over by_first by_last = record {
  count = length-exchanged z first last a;
  others = λ e nf nl. exchanged-other z first last e a nf nl;
  was_under = under;
  not_over = let r = exchanged-first z first last a lf apart in rw r
      (omega (arith, ints, by_first));
  was_over = over;
  not_under = let r = exchanged-second z first last a ll in rw r (omega (arith, ints, by_last));
}

-- the sets after the move
pub signs_moved : (before after : List ℤ) (first last : ℕ) (signs signs' : Signs)
    → AreSigns before signs → AreMoved before after first last → signs'.ground ≡ signs.ground
    → ((bit_in signs'.under first ≡ 1)
    ↔ ((bit_in signs.under first ≡ 1) × (get_or after first (pos 0) ≢ pos 0)))
    → ((k : ℕ) → k ≢ first → bit_in signs'.under k ≡ bit_in signs.under k)
    → ((bit_in signs'.over last ≡ 1)
    ↔ ((bit_in signs.over last ≡ 1) × (get_or after last (pos 0) ≢ pos 0)))
    → ((k : ℕ) → k ≢ last → bit_in signs'.over k ≡ bit_in signs.over k)
    → AreSigns after signs'
signs_moved before after first last signs signs' h moved same at_first under at_last over = record {
  whole = rw (same, moved.count) h.whole;
  above = λ e. ⊎_elim
      (λ is. rw is (
        (λ one. let p = at_last.0 one in (
          rw moved.count ((h.above last).0 p.0).0,
          let ge = moved.not_under in let ne = p.1 in by_lt_z (pos 0) (get_or after last (pos 0))
              (λ lt. lt) (λ le. absurd (ne (omega (arith, ints, ge, le)))),
        )),
        (λ (l, lt). at_last.1 (
          (h.above last).1 (rw moved.count at l, moved.was_over),
          λ z. let lt' = lt in absurd (omega (arith, ints, lt', z)),
        )),
      ))
      (λ ne. rw (over e ne) (other_above e ne)) (cases_eq e last);
  below = λ e. ⊎_elim
      (λ is. rw is (
        (λ one. let p = at_first.0 one in (
          rw moved.count ((h.below first).0 p.0).0,
          let le = moved.not_over in let ne = p.1 in by_lt_z (get_or after first (pos 0)) (pos 0)
              (λ lt. lt) (λ ge. absurd (ne (omega (arith, ints, le, ge)))),
        )),
        (λ (l, lt). at_first.1 (
          (h.below first).1 (rw moved.count at l, moved.was_under),
          λ z. let lt' = lt in absurd (omega (arith, ints, lt', z)),
        )),
      ))
      (λ ne. rw (under e ne) (other_below e ne)) (cases_eq e first);
} where
  other_above : (e : ℕ) → e ≢ last → (bit_in signs.over e ≡ 1)
      ↔ ((e < length after) × (pos 0 <ℤ get_or after e (pos 0)))
  other_above e ne = ⊎_elim
      (λ is. rw is (
        (λ one. let o = ((h.above first).0
            one).1 in let u = moved.was_under in absurd (omega (arith, ints, o, u))),
        (λ (l, lt). let le = moved.not_over in absurd (omega (arith, ints, le, lt))),
      ))
      (λ nf. rw (moved.count, moved.others e nf ne) (h.above e)) (cases_eq e first)

  other_below : (e : ℕ) → e ≢ first → (bit_in signs.under e ≡ 1)
      ↔ ((e < length after) × (get_or after e (pos 0) <ℤ pos 0))
  other_below e ne = ⊎_elim
      (λ is. rw is (
        (λ one. let u = ((h.below last).0
            one).1 in let o = moved.was_over in absurd (omega (arith, ints, o, u))),
        (λ (l, lt). let ge = moved.not_under in absurd (omega (arith, ints, ge, lt))),
      ))
      (λ nl. rw (moved.count, moved.others e ne nl) (h.below e)) (cases_eq e last)
