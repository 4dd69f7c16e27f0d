use Rattle.std.proofs.Common.{◌≡◌, pos, ◌*ℤ◌, ◌+ℤ◌, FitsSigned, arith, sym, ◌∙◌}
use Rattle.std.proofs.lemmas.Int.{ints, to_z-of_z}
use mir.Syntax.{w128}
use Rattle.sfm_ask.specs.Shifts.{shift_of_pins}
use Rattle.sfm_ask.specs.Asking.{penalty_of}
use Rattle.sfm_ask.proofs.Values.{penalty-formed, penalty-small, shift-length, shift-small}
use Rattle.sfm_ask.proofs.asking.ask.Goals as goal

pub overflow_mul-penalty : goal.overflow_mul-penalty
overflow_mul-penalty c =
    let f = penalty-formed _ c.args.instance.now c.total_size.result c.terms.ensures.bounded
    c.total_size.ensures.total in
    let f1 : FitsSigned w128 c.total_size.result = f.total_fits in
    simp to_z-of_z f.twice_fits

pub pin_shift-requires-clause-small : goal.pin_shift-requires-clause-small
pin_shift-requires-clause-small c =
    let f = penalty-formed _ c.args.instance.now c.total_size.result c.terms.ensures.bounded
    c.total_size.ensures.total in
    let f1 : FitsSigned w128 c.total_size.result = f.total_fits in
    let f2 : FitsSigned w128 (pos 2 *ℤ c.total_size.result) = f.twice_fits in
    let f3 : FitsSigned w128 ((pos 2 *ℤ c.total_size.result) +ℤ pos 1) = f.fits in
    let s = penalty-small _ c.args.instance.now c.terms.ensures.bounded in
    simp to_z-of_z
    (rw f.is (record { low = omega (arith, ints, s.low); high = omega (arith, ints, s.high) }))

-- the shift that was made
made : (c : goal.After-deref) → c.deref.result.now ≡ shift_of_pins (penalty_of c.args.instance.now)
    c.args.pins.now.inside c.args.pins.now.outside
made c =
    let f = penalty-formed _ c.args.instance.now c.total_size.result c.terms.ensures.bounded
    c.total_size.ensures.total in
    let f1 : FitsSigned w128 c.total_size.result = f.total_fits in
    let f2 : FitsSigned w128 (pos 2 *ℤ c.total_size.result) = f.twice_fits in
    let f3 : FitsSigned w128 ((pos 2 *ℤ c.total_size.result) +ℤ pos 1) = f.fits in
    let is : c.in_ok-shift.shift.items ≡ shift_of_pins ((pos 2 *ℤ c.total_size.result) +ℤ pos 1)
    c.args.pins.now.inside c.args.pins.now.outside
    = simp to_z-of_z at c.in_ok-shift.ensures in
    c.deref.ensures.value ∙ rw f.is at is

pub found_at-requires-clause-each : goal.found_at-requires-clause-each
found_at-requires-clause-each c =
    rw (made c) (shift-length _ c.args.pins.now.inside c.args.pins.now.outside
    (c.requires.outside ∙ sym c.requires.inside) ∙ c.requires.inside)

pub found_at-requires-clause-shifts : goal.found_at-requires-clause-shifts
found_at-requires-clause-shifts c =
    rw (made c) (shift-small _ (penalty-small _ c.args.instance.now c.terms.ensures.bounded)
    c.args.pins.now.inside c.args.pins.now.outside
    (omega (arith, c.terms.ensures.bounded.few, c.requires.inside)))

pub told-requires-clause-penalty : goal.told-requires-clause-penalty
told-requires-clause-penalty c =
    let f = penalty-formed _ c.args.instance.now c.total_size.result c.terms.ensures.bounded
    c.total_size.ensures.total in
    let f1 : FitsSigned w128 c.total_size.result = f.total_fits in
    let f2 : FitsSigned w128 (pos 2 *ℤ c.total_size.result) = f.twice_fits in
    let f3 : FitsSigned w128 ((pos 2 *ℤ c.total_size.result) +ℤ pos 1) = f.fits in
    simp to_z-of_z f.is
