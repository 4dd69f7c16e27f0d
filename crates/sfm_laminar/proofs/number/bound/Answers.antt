use Rattle.std.proofs.Common.{◌≡◌, ◌≤ℤ◌, ◌*ℤ◌, ◌^◌, ◌∙◌, length, ap, pos, arith, Fits, w64, FitsSigned}
use Rattle.std.specs.Int.{int_min}
use Rattle.std.proofs.lemmas.Int.{ints, clamps, to_z-of_z}
use mir.Syntax.{w128}
use Rattle.sfm_spec.specs.Bounds.{IsAtMost}
use Rattle.sfm_law.proofs.Entries.{count_bits}
use Rattle.sfm_laminar.proofs.Fits.{bound_small, bound_fits}
use Rattle.sfm_laminar.proofs.number.bound.Goals as goal
use Rattle.sfm_laminar.proofs.number.bound.Goals.{After-min}

-- what is multiplied is the cap, or the number of members where that is less, and what comes of it
-- is small
multiplied : (c : After-min) → let g = c.args.group.now in (c.min.result ≡ int_min g.cap
    (pos (length g.members))) × IsAtMost (10 ^ 27) (c.args.most *ℤ c.min.result)
multiplied c =
    let g = c.args.group.now in
    let r = c.requires in
    let fc : FitsSigned w128 c.cap.result = record { sfits = c.cap.type_inv } in
    let v = simp to_z-of_z at c.min.ensures.value in
    let l = ap length c.members.ensures in
    let few = r.few in
    let cap = r.sound.low in
    let f : Fits w64 (length c.members.result.now) = omega (arith, few, l) in
    let bits = count_bits (length c.members.result.now) f in
    let is : c.min.result ≡ int_min g.cap (pos (length g.members)) = v
    ∙ ap (λ z. int_min c.cap.result z) bits
    ∙ ap (λ z. int_min z (pos (length c.members.result.now))) c.cap.ensures
    ∙ ap (λ n. int_min g.cap (pos n)) l in
    let low : pos 0 ≤ℤ c.min.result = omega (arith, ints, clamps, is, cap) in
    let high : c.min.result ≤ℤ pos 256 = omega (arith, ints, clamps, is, few) in
    (is, bound_small c.args.most c.min.result r.low r.high low high)

pub overflow_mul-result : goal.overflow_mul-result
overflow_mul-result c =
    let fm : FitsSigned w128 c.args.most = c.ranges.most in
    let fn : FitsSigned w128 c.min.result = record { sfits = c.min.type_inv } in
    simp to_z-of_z (bound_fits _ (multiplied (goal.at.overflow_mul-result c).After-min).1)

pub returns-clause-value : goal.returns-clause-value
returns-clause-value c =
    let (is, small) = multiplied (goal.at.returns-clause-value c).After-min in
    let fm : FitsSigned w128 c.args.most = c.ranges.most in
    let fn : FitsSigned w128 c.min.result = record { sfits = c.min.type_inv } in
    let fp : FitsSigned w128 (c.args.most *ℤ c.min.result) = bound_fits _ small in
    simp to_z-of_z (ap (λ z. c.args.most *ℤ z) is)

pub returns-clause-small : goal.returns-clause-small
returns-clause-small c =
    let small = (multiplied (goal.at.returns-clause-small c).After-min).1 in
    let fm : FitsSigned w128 c.args.most = c.ranges.most in
    let fn : FitsSigned w128 c.min.result = record { sfits = c.min.type_inv } in
    let fp : FitsSigned w128 (c.args.most *ℤ c.min.result) = bound_fits _ small in
    simp to_z-of_z small
