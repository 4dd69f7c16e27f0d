use Rattle.std.proofs.Common.{FitsSigned, arith}
use Rattle.std.proofs.lemmas.Int.{ints, to_z-of_z}
use mir.Syntax.{w128}
use mir.Val.{of_z, to_z}
use Rattle.sfm_spec.specs.Bounds.{IsFactor}
use Rattle.sfm_exchange.proofs.ClaimedGraphs.{shaped}
use Rattle.sfm_slope.proofs.least.least_from_first.Goals as goal

pub restart_first-requires-clause-graph : goal.restart_first-requires-clause-graph
restart_first-requires-clause-graph g c =
    rw c.requires.search.cold.are_spots.count c.requires.search.cold

pub restart_first-requires-clause-first : goal.restart_first-requires-clause-first
restart_first-requires-clause-first g c =
    rw c.requires.search.cold.are_spots.count c.requires.search.first

pub invariant_of-ratio-clause-small : goal.invariant_of-ratio-clause-small
invariant_of-ratio-clause-small g c =
    let s = c.args.slope in
    let r = c.requires.small in
    let fp : FitsSigned w128 s.num = omega (arith, ints, s.entry.low, s.entry.high) in
    simp to_z-of_z (record { low = omega (arith, ints, r.low); high = omega (arith, ints, r.high) })

pub invariant_of-ratio-clause-factor : goal.invariant_of-ratio-clause-factor
invariant_of-ratio-clause-factor g c =
    let s = c.args.slope in
    let fq : FitsSigned w128 s.den = omega (arith, ints, s.factor.low, s.factor.high) in
    let h : IsFactor (to_z w128 (of_z w128 s.den)) = simp to_z-of_z s.factor in
    h

pub least_on-requires-clause-places : goal.least_on-requires-clause-places
least_on-requires-clause-places g c = c.requires.search.shift

pub least_on-requires-clause-graph : goal.least_on-requires-clause-graph
least_on-requires-clause-graph g c =
    rw c.requires.search.cold.are_spots.count at c.in_ok-restart_first.ensures.graph

pub least_on-requires-clause-small : goal.least_on-requires-clause-small
least_on-requires-clause-small g c = c.in_ok-restart_first.ensures.small

pub returns-clause-search : goal.returns-clause-search
returns-clause-search g c =
    let r = c.requires.search in
    let o = c.in_ok-least.ensures in
    record {
      first = r.first;
      begins = r.begins;
      warm = r.warm;
      cold = shaped o.graph;
      shift = o.places;
    }

pub returns-clause-least : goal.returns-clause-least
returns-clause-least g c =
    let s = c.args.slope in
    let fp : FitsSigned w128 s.num = omega (arith, ints, s.entry.low, s.entry.high) in
    let fq : FitsSigned w128 s.den = omega (arith, ints, s.factor.low, s.factor.high) in
    simp to_z-of_z at c.in_ok-least.ensures.least
