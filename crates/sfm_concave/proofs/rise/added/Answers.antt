use Rattle.std.proofs.Common.{◌≤◌, ◌-◌, ◌*◌, ◌^◌, ℤ, ◌-ℤ◌, get_or, pos, arith, FitsSigned}
use Rattle.std.proofs.lemmas.Int.{ints, to_z-of_z}
use Rattle.std.proofs.lemmas.List.Elements.{All-get_or}
use mir.Syntax.{w128}
use Rattle.sfm_spec.specs.Bounds.{IsAtMost, IsGiven}
use Rattle.sfm_law.proofs.Fits.{given_fits, given_difference_fits}
use Rattle.sfm_concave.proofs.Increments.{increment-is}
use Rattle.sfm_concave.proofs.rise.added.Goals as goal
use Rattle.sfm_concave.proofs.rise.added.Goals.{Else-at-eq1}

difference_small : (a b : ℤ) → IsGiven a → IsGiven b → IsAtMost (2 * 10 ^ 18) (a -ℤ b)
difference_small a b g h = record {
  low = omega (arith, ints, g.low, h.high);
  high = omega (arith, ints, g.high, h.low);
}

-- both numbers are listed, and they and their difference fit
listed : (c : Else-at-eq1) → let a = get_or c.args.values.now (c.args.at - 1)
    (pos 0) in let b = get_or c.args.values.now (c.args.at - 2) (pos 0) in
    (2 ≤ c.args.at) × IsGiven a × IsGiven b × FitsSigned w128 a × FitsSigned w128 b
    × FitsSigned w128 (a -ℤ b)
listed c =
    let values = c.args.values.now in
    let at = c.args.at in
    let ne = c.if-at-eq1.false in
    let low : 2 ≤ at = omega (arith, ne, c.requires.low) in
    let a = All-get_or IsGiven values (at - 1) (pos 0) (omega (arith, low, c.requires.high))
    c.requires.given in
    let b = All-get_or IsGiven values (at - 2) (pos 0) (omega (arith, low, c.requires.high))
    c.requires.given in
    (low, a, b, given_fits _ a, given_fits _ b, given_difference_fits _ _ a b)

pub returns-clause-value : goal.returns-clause-value
returns-clause-value c =
    let (low, a, b, fa, fb, fd) = listed (goal.at.returns-clause-value c).Else-at-eq1 in
    simp to_z-of_z (increment-is c.args.values.now c.args.at low)

pub returns-clause-small : goal.returns-clause-small
returns-clause-small c =
    let (low, a, b, fa, fb, fd) = listed (goal.at.returns-clause-small c).Else-at-eq1 in
    simp to_z-of_z (difference_small _ _ a b)

pub overflow_sub-result-3 : goal.overflow_sub-result-3
overflow_sub-result-3 c =
    let (low, a, b, fa, fb, fd) = listed (goal.at.overflow_sub-result-3 c).Else-at-eq1 in
    simp to_z-of_z fd
