use Rattle.std.proofs.Common.{◌^◌, ℤ, pos, ◌-ℤ◌, ◌≤ℤ◌, ◌<ℤ◌, arith, FitsSigned}
use Rattle.std.proofs.lemmas.Int.{ints, to_z-of_z}
use mir.Syntax.{w128}
use Rattle.sfm_spec.specs.Bounds.{IsEntry, IsFactor, IsGiven}
use Rattle.sfm_slope.proofs.turn.slope_between.Goals as goal

given_fits : (a : ℤ) → IsGiven a → FitsSigned w128 a
given_fits a h = omega (arith, ints, h.low, h.high)

-- the difference of two given numbers
rise_fits : (a b : ℤ) → IsGiven a → IsGiven b → FitsSigned w128 (b -ℤ a)
rise_fits a b ha hb = omega (arith, ints, ha.low, ha.high, hb.low, hb.high)

rise_entry : (a b : ℤ) → IsGiven a → IsGiven b → IsEntry (b -ℤ a)
rise_entry a b ha hb = record {
  low = omega (arith, ints, ha.low, hb.low, ha.high, hb.high);
  high = omega (arith, ints, ha.low, hb.low, ha.high, hb.high);
}

-- the difference of two weights
width_factor : (a b : ℤ) → pos 0 ≤ℤ a → a <ℤ b → b ≤ℤ pos (10 ^ 6) → IsFactor (b -ℤ a)
width_factor a b low l high = record {
  low = omega (arith, ints, l);
  high = omega (arith, ints, low, high);
}

pub overflow_sub-rise : goal.overflow_sub-rise
overflow_sub-rise c =
    let r = c.requires in
    let fl : FitsSigned w128 c.args.low.now.sum = given_fits _ r.low_small in
    let fh : FitsSigned w128 c.args.high.now.sum = given_fits _ r.high_small in
    let fits = rise_fits _ _ r.low_small r.high_small in
    simp to_z-of_z fits

pub new-requires-clause-entry : goal.new-requires-clause-entry
new-requires-clause-entry c =
    let r = c.requires in
    let fl : FitsSigned w128 c.args.low.now.sum = given_fits _ r.low_small in
    let fh : FitsSigned w128 c.args.high.now.sum = given_fits _ r.high_small in
    let fits : FitsSigned w128 (c.args.high.now.sum -ℤ c.args.low.now.sum) = rise_fits _ _
    r.low_small r.high_small in
    simp to_z-of_z (rise_entry _ _ r.low_small r.high_small)

pub new-requires-clause-factor : goal.new-requires-clause-factor
new-requires-clause-factor c =
    let r = c.requires in
    let a = c.args.low.now.weight in
    let b = c.args.high.now.weight in
    let fa : FitsSigned w128 a = omega (arith, ints, r.low, r.larger, r.high) in
    let fb : FitsSigned w128 b = omega (arith, ints, r.low, r.larger, r.high) in
    let fits : FitsSigned w128 (b -ℤ a) = omega (arith, ints, r.low, r.larger, r.high) in
    simp to_z-of_z (width_factor a b r.low r.larger r.high)

pub returns : goal.returns
returns c =
    let r = c.requires in
    let a = c.args.low.now in
    let b = c.args.high.now in
    let fl : FitsSigned w128 a.sum = given_fits _ r.low_small in
    let fh : FitsSigned w128 b.sum = given_fits _ r.high_small in
    let rise : FitsSigned w128 (b.sum -ℤ a.sum) = rise_fits _ _ r.low_small r.high_small in
    let fa : FitsSigned w128 a.weight = omega (arith, ints, r.low, r.larger, r.high) in
    let fb : FitsSigned w128 b.weight = omega (arith, ints, r.low, r.larger, r.high) in
    let width : FitsSigned w128 (b.weight -ℤ a.weight) = omega (
      arith,
      ints,
      r.low,
      r.larger,
      r.high,
    ) in
    simp to_z-of_z at c.new.ensures.same
