-- The rank's number, the step and the rank of the level, multiplied.
use Rattle.std.proofs.Common.{◌≡◌, ◌∙◌, rules, get_or, pos, ◌-ℤ◌, ◌*ℤ◌, FitsSigned, ap, arith}
use Rattle.std.proofs.lemmas.Int.{ints, to_z-of_z}
use mir.Syntax.{w128}
use Rattle.sfm_spec.specs.Sets.{size}
use Rattle.sfm_law.proofs.Fits.{given_fits}
use Rattle.sfm_layers.specs.Weights.{at_least}
use Rattle.sfm_kind.specs.Restricted.{IsRankOver, IsLevelWeighed, level_behind}
use Rattle.sfm_kind.proofs.Stepped.{step-is}
use Rattle.sfm_kind.proofs.Weighing.{AreFactors, level-factors}
use Rattle.sfm_kind.proofs.kind.Kind.weigh_level.Goals as goal
use Rattle.sfm_kind.proofs.kind.Kind.weigh_level.Goals.{After-factor}

numbers : (c : After-factor)
    → (c.in_ok-keep.keep ≡ at_least (get_or c.args.levels.now c.args.j (pos 0)) c.args.weights.now)
    × IsRankOver c.args.self.now (at_least (get_or c.args.levels.now c.args.j (pos 0))
    c.args.weights.now) c.in_ok-rank.rank
    × AreFactors c.factor.result (get_or c.args.levels.now c.args.j (pos 0) -ℤ level_behind
    c.args.levels.now c.args.j) c.in_ok-rank.rank
numbers c =
    let levels = c.args.levels.now in
    let v = get_or levels c.args.j (pos 0) in
    let is = step-is c.args.weights.now levels c.args.j c.requires.weights c.requires.levels
    c.requires.within in
    let (fv, fn, fs) = is.fits in
    let keep : c.in_ok-keep.keep ≡ at_least v c.args.weights.now = simp to_z-of_z at
    c.in_ok-keep.ensures in
    let over : IsRankOver c.args.self.now (at_least v c.args.weights.now)
    c.in_ok-rank.rank = rw keep at c.in_ok-rank.ensures in (
      keep,
      over,
      rw c.factor.ensures.factor
          (level-factors c.args.self.now c.args.weights.now levels c.args.j c.in_ok-rank.rank
          c.requires.each c.requires.weights c.requires.levels c.requires.within over),
    )

pub overflow_sub-step : goal.overflow_sub-step
overflow_sub-step c =
    let is = step-is c.args.weights.now c.args.levels.now c.args.j c.requires.weights
    c.requires.levels c.requires.within in
    let (fv, fn, fs) = is.fits in
    rw c.next_level.ensures (simp to_z-of_z
    (omega (arith, ints, is.low, is.high, is.next_low, is.step_low)))

pub overflow_mul-each : goal.overflow_mul-each
overflow_mul-each c =
    let is = step-is c.args.weights.now c.args.levels.now c.args.j c.requires.weights
    c.requires.levels c.requires.within in
    let (fv, fn, fs) = is.fits in
    let fw : FitsSigned w128 c.factor.result = given_fits _ c.factor.ensures.given in
    let n = (numbers (goal.at.overflow_mul-each c).After-factor).2 in
    rw c.next_level.ensures (simp to_z-of_z (omega (arith, ints, n.each_low, n.each_high)))

pub overflow_mul-result : goal.overflow_mul-result
overflow_mul-result c =
    let levels = c.args.levels.now in
    let is = step-is c.args.weights.now levels c.args.j c.requires.weights c.requires.levels
    c.requires.within in
    let (fv, fn, fs) = is.fits in
    let fw : FitsSigned w128 c.factor.result = given_fits _ c.factor.ensures.given in
    let n = (numbers (goal.at.overflow_mul-result c).After-factor).2 in
    let fe : FitsSigned w128 (c.factor.result
    *ℤ (get_or levels c.args.j (pos 0) -ℤ level_behind levels c.args.j)) = omega (
      arith,
      ints,
      n.each_low,
      n.each_high,
    ) in
    let fr : FitsSigned w128 c.in_ok-rank.rank = search rules in
    rw c.next_level.ensures (simp to_z-of_z (omega (arith, ints, n.low, n.high)))

pub returns : goal.returns
returns c =
    let levels = c.args.levels.now in
    let v = get_or levels c.args.j (pos 0) in
    let next = level_behind levels c.args.j in
    let r = c.in_ok-rank.rank in
    let is = step-is c.args.weights.now levels c.args.j c.requires.weights c.requires.levels
    c.requires.within in
    let (fv, fn, fs) = is.fits in
    let fw : FitsSigned w128 c.factor.result = given_fits _ c.factor.ensures.given in
    let (keep, over, n) = numbers (goal.at.returns c).After-factor in
    let fe : FitsSigned w128 (c.factor.result *ℤ (v -ℤ next)) = omega (
      arith,
      ints,
      n.each_low,
      n.each_high,
    ) in
    let fr : FitsSigned w128 r = search rules in
    let fp : FitsSigned w128 ((c.factor.result *ℤ (v -ℤ next)) *ℤ r) = omega (
      arith,
      ints,
      n.low,
      n.high,
    ) in
    let made : IsLevelWeighed c.args.self.now c.args.weights.now v next c.size.result
    ((c.factor.result *ℤ (v -ℤ next)) *ℤ r) =
    record {
      places_are = c.size.ensures ∙ ap size keep;
      worth = (r, over, ap (λ w. (w *ℤ (v -ℤ next)) *ℤ r) c.factor.ensures.factor);
    } in
    rw c.next_level.ensures (simp to_z-of_z made)
