use Rattle.std.proofs.Common.{◌≡◌, ◌≤ℤ◌, ◌*ℤ◌, ◌^◌, ◌∙◌, pos, ap, arith, FitsSigned}
use Rattle.std.specs.Int.{int_min}
use Rattle.std.proofs.lemmas.Int.{ints, clamps, to_z-of_z}
use mir.Syntax.{w128}
use Rattle.sfm_spec.specs.Bounds.{IsAtMost}
use Rattle.sfm_law.proofs.Entries.{count_bits}
use Rattle.sfm_law.proofs.Fits.{given_fits, rank_small, rank_fits}
use Rattle.sfm_concave.specs.UniformLaws.{rank_of}
use Rattle.sfm_concave.proofs.uniform.Uniform.ranked.Goals as goal
use Rattle.sfm_concave.proofs.uniform.Uniform.ranked.Goals.{After-min}

-- what is multiplied is the rank of the count, and what comes of it is small
multiplied : (c : After-min) → (c.min.result ≡ rank_of c.args.self.now.cap c.args.count)
    × IsAtMost (10 ^ 21) (c.args.self.now.w *ℤ c.min.result)
multiplied c =
    let s = c.args.self.now in
    let fc : FitsSigned w128 s.cap = given_fits _ s.cap_given in
    let v : c.min.result ≡ rank_of s.cap c.args.count = (simp to_z-of_z at c.min.ensures.value)
    ∙ ap (λ z. int_min z s.cap) (count_bits c.args.count c.ranges.count) in
    let few = c.requires in
    let cap = s.cap_low in
    let low : pos 0 ≤ℤ c.min.result = omega (arith, ints, clamps, v, cap) in
    let high : c.min.result ≤ℤ pos 256 = omega (arith, ints, clamps, v, few) in
    (v, rank_small s.w c.min.result s.low s.given low high)

pub overflow_mul-result : goal.overflow_mul-result
overflow_mul-result c =
    let fw : FitsSigned w128 c.args.self.now.w = given_fits _ c.args.self.now.given in
    let fm : FitsSigned w128 c.min.result = record { sfits = c.min.type_inv } in
    simp to_z-of_z (rank_fits _ (multiplied (goal.at.overflow_mul-result c).After-min).1)

pub returns-clause-value : goal.returns-clause-value
returns-clause-value c =
    let s = c.args.self.now in
    let (is, small) = multiplied (goal.at.returns-clause-value c).After-min in
    let fw : FitsSigned w128 s.w = given_fits _ s.given in
    let fm : FitsSigned w128 c.min.result = record { sfits = c.min.type_inv } in
    let fp : FitsSigned w128 (s.w *ℤ c.min.result) = rank_fits _ small in
    simp to_z-of_z (ap (λ z. s.w *ℤ z) is)

pub returns-clause-small : goal.returns-clause-small
returns-clause-small c =
    let s = c.args.self.now in
    let small = (multiplied (goal.at.returns-clause-small c).After-min).1 in
    let fw : FitsSigned w128 s.w = given_fits _ s.given in
    let fm : FitsSigned w128 c.min.result = record { sfits = c.min.type_inv } in
    let fp : FitsSigned w128 (s.w *ℤ c.min.result) = rank_fits _ small in
    simp to_z-of_z small
