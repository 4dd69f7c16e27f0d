use Rattle.std.proofs.Common.{◌≢◌, ◌^◌, get_or, pos, ◌+ℤ◌, ◌-ℤ◌, sym, arith, FitsSigned, get_or-set_other}
use Rattle.std.proofs.lemmas.Int.{ints, to_z-of_z}
use Rattle.std.proofs.lemmas.List.Elements.{All-get_or}
use mir.Syntax.{w128}
use Rattle.sfm_spec.specs.Bounds.{IsAtMost}
use Rattle.sfm_exchange.proofs.sums.move_sums.Goals as goal

pub returns : goal.returns
returns c =
    let x = c.args.sums.now in
    let u = c.args.u in
    let v = c.args.v in
    let a = c.args.a in
    let r = c.requires in
    let fa : FitsSigned w128 a = c.ranges.a in
    let su : IsAtMost (10 ^ 35) (get_or x u (pos 0)) = All-get_or (IsAtMost (10 ^ 35)) x u (pos 0)
    r.from r.small in
    let sv : IsAtMost (10 ^ 35) (get_or x v (pos 0)) = All-get_or (IsAtMost (10 ^ 35)) x v (pos 0)
    r.onto r.small in
    let fu : FitsSigned w128 (get_or x u (pos 0)) = omega (arith, ints, su.low, su.high) in
    let fv : FitsSigned w128 (get_or x v (pos 0)) = omega (arith, ints, sv.low, sv.high) in
    let fs : FitsSigned w128 (get_or x u (pos 0) +ℤ a) = omega (
      arith,
      ints,
      su.low,
      su.high,
      r.low,
      r.high,
    ) in
    let fd : FitsSigned w128 (get_or x v (pos 0) -ℤ a) = omega (
      arith,
      ints,
      sv.low,
      sv.high,
      r.low,
      r.high,
    ) in
    let ne : v ≢ u = λ e. r.apart (sym e) in
    rw get_or-set_other (simp to_z-of_z)
