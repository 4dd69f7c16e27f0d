-- no remainder is left, so the quotient is exact
use Rattle.std.proofs.Common.{pos, FitsSigned, ap, ◌*ℤ◌, ◌∙◌, arith}
use Rattle.std.specs.Int.{w128}
use Rattle.std.proofs.lemmas.Int.{ints, quot_is, quot_fits}
use Rattle.sfm_base.proofs.Slopes.{quotient_exact}
use Rattle.sfm_base.proofs.slope.quotient.Goals as goal

pub returns : goal.returns
returns c =
    let f : FitsSigned w128 (pos c.args.divisor) = omega (arith, ints) in
    ap (λ z. pos c.args.divisor *ℤ z)
    (quot_is w128 c.args.a (pos c.args.divisor) c.ranges.a f
    (quot_fits w128 c.args.a (pos c.args.divisor) c.ranges.a (omega (arith, ints))))
    ∙ quotient_exact c.args.a c.args.divisor c.requires.divides
