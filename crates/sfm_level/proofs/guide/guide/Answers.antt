use Rattle.std.proofs.Common.{◌^◌, pos, ◌+ℤ◌, ◌∙◌, arith, FitsSigned}
use Rattle.std.proofs.lemmas.Int.{ints, to_z-of_z}
use mir.Syntax.{w128}
use Rattle.sfm_spec.specs.Bounds.{IsAtMost}
use Rattle.sfm_spec.specs.Families.{meanings, base_sum_at}
use Rattle.sfm_level.proofs.Kept.{sums-kept, sums-near}
use Rattle.sfm_level.proofs.Values.{length-first_values}
use Rattle.sfm_level.proofs.guide.guide.Goals as goal

pub mean_of-requires-clause-few : goal.mean_of-requires-clause-few
mean_of-requires-clause-few g c =
    let t = g.T.Term in
    let is = c.deref.ensures.value ∙ sums-kept c.loop.invariant in
    let count = length-first_values c.args.n
    (base_sum_at (meanings t.places t.value_of c.args.terms.now) c.loop.graph.bases) in
    rw (is, count) c.loop.invariant.claimed.bounded.few

pub mean_of-requires-clause-small : goal.mean_of-requires-clause-small
mean_of-requires-clause-small g c =
    rw (c.deref.ensures.value ∙ sums-kept c.loop.invariant) (sums-near c.loop.invariant)

pub least_at-requires-in-loop-clause-slope : goal.least_at-requires-in-loop-clause-slope
least_at-requires-in-loop-clause-slope g c =
    let small : IsAtMost (10 ^ 15) c.in-Some-mean_of.t = c.in-Some-mean_of.ensures in
    let ft : FitsSigned w128 c.in-Some-mean_of.t = omega (arith, ints, small.low, small.high) in
    let fm : FitsSigned w128 (c.in-Some-mean_of.t +ℤ pos 1)
    = omega (arith, ints, small.low, small.high) in
    simp to_z-of_z (record {
      low = omega (arith, ints, small.low);
      high = omega (arith, ints, small.high);
    })
