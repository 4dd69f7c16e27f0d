use Rattle.std.proofs.Common.{◌≤◌, ◌^◌, pos, ◌≤ℤ◌, arith, FitsSigned}
use Rattle.std.proofs.lemmas.Int.{ints, to_z-of_z}
use mir.Syntax.{w128}
use Rattle.sfm_spec.specs.Bounds.{IsGiven}
use Rattle.sfm_spec.proofs.Sizes.{size_below_length}
use Rattle.sfm_check.proofs.Small.{sum_small}
use Rattle.sfm_check.proofs.worth.worth_of.Goals as goal

pub returns-in-Some-clause-small : goal.returns-in-Some-clause-small
returns-in-Some-clause-small c =
    let ts = c.args.instance.now.terms in
    let s = c.args.set.now in
    let told = rw (c.in-Some.is, c.terms.ensures.terms) at c.in_ok-sum.ensures in
    let r = sum_small ts s told.0 in
    let m = c.terms.ensures.bounded.small in
    let few = c.terms.ensures.bounded.few in
    let e = told.1 in
    let given : IsGiven c.in-Some.sum = record {
      low = omega (arith, ints, r.0, r.1, m, e);
      high = omega (arith, ints, r.0, r.1, m, e);
    } in
    let fits : FitsSigned w128 c.in-Some.sum = omega (arith, ints, given.low, given.high) in
    let low = size_below_length s in
    let size : c.size.result ≤ 256 = omega (arith, low, few, c.size.ensures, c.requires.places) in
    let light = c.weight_of.ensures.low in
    let heavy = c.weight_of.ensures.high in
    let most = c.requires.sizes.small in
    let fw : FitsSigned w128 c.weight_of.result = omega (arith, ints, light, heavy, most) in
    let most_is : c.weight_of.result ≤ℤ pos (10 ^ 6) = omega (arith, ints, heavy, most) in
    record {
      size = size;
      weight = (simp to_z-of_z light, simp to_z-of_z most_is);
      sum = simp to_z-of_z given;
    }

pub weight_of-requires : goal.weight_of-requires
weight_of-requires c = record { sizes = rw c.requires.places c.requires.sizes }
