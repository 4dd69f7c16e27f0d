use Rattle.std.proofs.Common.{◌≡◌, length, pos, ◌*ℤ◌, FitsSigned, arith}
use Rattle.std.proofs.lemmas.Int.{ints, to_z-of_z}
use mir.Syntax.{w128}
use mir.Val.{of_z, to_z}
use Rattle.sfm_spec.specs.Bounds.{IsFactor}
use Rattle.sfm_spec.specs.Families.{meanings, sized_shift, IsLeast}
use Rattle.sfm_spec.proofs.Nest.{least_same_slope}
use Rattle.sfm_exchange.proofs.ClaimedGraphs.{shaped}
use Rattle.sfm_slope.proofs.Scaled.{factor-grains, same-grains}
use Rattle.sfm_slope.proofs.least.least_at.Given as given
use Rattle.sfm_slope.proofs.least.least_at.Goals as goal
use Rattle.sfm_slope.proofs.least.least_at.Goals.{After-grains-q}

-- 64 times the numbers of the slope
grained : (g : given.Over) (c : After-grains-q g)
    → (c.grains-p.result ≡ (c.args.slope.num *ℤ pos 64))
    × (c.grains-q.result ≡ (c.args.slope.den *ℤ pos 64))
grained g c =
    let s = c.args.slope in
    let fp : FitsSigned w128 s.num = omega (arith, ints, s.entry.low, s.entry.high) in
    let fq : FitsSigned w128 s.den = omega (arith, ints, s.factor.low, s.factor.high) in
    (simp to_z-of_z at c.grains-p.ensures.times, simp to_z-of_z at c.grains-q.ensures.times)

pub multiply_warm-requires : goal.multiply_warm-requires
multiply_warm-requires g c =
    let s = c.args.slope in
    let fq : FitsSigned w128 s.den = omega (arith, ints, s.factor.low, s.factor.high) in
    simp to_z-of_z (record { factor = s.factor; few = c.requires.few; search = c.requires.search })

pub invariant_of-ratio-clause-small : goal.invariant_of-ratio-clause-small
invariant_of-ratio-clause-small g c =
    let p = c.grains-p.ensures.small in
    let fp : FitsSigned w128 c.grains-p.result = omega (arith, ints, p.low, p.high) in
    simp to_z-of_z p

pub invariant_of-ratio-clause-factor : goal.invariant_of-ratio-clause-factor
invariant_of-ratio-clause-factor g c =
    let s = c.args.slope in
    let q = c.grains-q.ensures.small in
    let fq : FitsSigned w128 c.grains-q.result = omega (arith, ints, q.low, q.high) in
    let f : IsFactor c.grains-q.result = rw (grained g
    (goal.at.invariant_of-ratio-clause-factor g c).After-grains-q).1
    (factor-grains s.den s.factor c.requires.few) in
    let h : IsFactor (to_z w128 (of_z w128 c.grains-q.result)) = simp to_z-of_z f in
    h

pub least_on-requires-clause-places : goal.least_on-requires-clause-places
least_on-requires-clause-places g c = c.in_ok-multiply_warm.ensures.search.shift

pub least_on-requires-clause-graph : goal.least_on-requires-clause-graph
least_on-requires-clause-graph g c =
    let s = c.args.slope in
    let fd : FitsSigned w128 s.den = omega (arith, ints, s.factor.low, s.factor.high) in
    let small = c.grains-q.ensures.small in
    let fq : FitsSigned w128 c.grains-q.result = omega (arith, ints, small.low, small.high) in
    simp to_z-of_z (rw (grained g (goal.at.least_on-requires-clause-graph g c).After-grains-q).1
    (simp to_z-of_z at c.in_ok-multiply_warm.ensures.graph))

pub least_on-requires-clause-small : goal.least_on-requires-clause-small
least_on-requires-clause-small g c = c.in_ok-multiply_warm.ensures.small

pub returns-clause-search : goal.returns-clause-search
returns-clause-search g c =
    let r = c.in_ok-multiply_warm.ensures.search in
    let o = c.in_ok-least.ensures in
    record {
      first = r.first;
      begins = r.begins;
      warm = r.warm;
      cold = shaped o.graph;
      shift = o.places;
    }

pub returns-clause-least : goal.returns-clause-least
returns-clause-least g c =
    let t = g.T.Term in
    let s = c.args.slope in
    let sizes = c.args.sizes.now in
    let n = length sizes in
    let ts = meanings t.places t.value_of c.args.terms.now in
    let p = c.grains-p.ensures.small in
    let q = c.grains-q.ensures.small in
    let fp : FitsSigned w128 c.grains-p.result = omega (arith, ints, p.low, p.high) in
    let fq : FitsSigned w128 c.grains-q.result = omega (arith, ints, q.low, q.high) in
    let by = grained g (goal.at.returns-clause-least g c).After-grains-q in
    let here : IsLeast ts n (s.den *ℤ pos 64) (sized_shift sizes (s.num *ℤ pos 64))
    c.in_ok-least.least.set
    = rw (← by.0, ← by.1) (simp to_z-of_z at c.in_ok-least.ensures.least) in
    let one = s.factor.low in
    least_same_slope ts n sizes (s.num *ℤ pos 64) (s.den *ℤ pos 64) s.num s.den
    c.in_ok-least.least.set
    (omega (arith, ints, one)) one (same-grains s.num s.den) here
