use Rattle.std.proofs.Common.{FitsSigned, arith}
use Rattle.std.proofs.lemmas.Int.{ints, to_z-of_z}
use mir.Syntax.{w128}
use Rattle.sfm_slope.proofs.least.least_below.Goals as goal

pub keep_small-requires : goal.keep_small-requires
keep_small-requires g c =
    let r = c.requires.search in
    record {
      graph = rw r.warm.are_spots.count r.warm;
      first = rw r.warm.are_spots.count r.first;
      begins = r.begins;
    }

pub invariant_of-ratio-clause-small : goal.invariant_of-ratio-clause-small
invariant_of-ratio-clause-small g c =
    let fp : FitsSigned w128 c.args.p = c.ranges.p in simp to_z-of_z c.requires.small

pub invariant_of-ratio-clause-factor : goal.invariant_of-ratio-clause-factor
invariant_of-ratio-clause-factor g c =
    record { low = omega (arith, ints); high = omega (arith, ints) }

pub least_on-requires-clause-places : goal.least_on-requires-clause-places
least_on-requires-clause-places g c = c.requires.search.shift

pub least_on-requires-clause-graph : goal.least_on-requires-clause-graph
least_on-requires-clause-graph g c =
    rw c.requires.search.warm.are_spots.count at c.in_ok-keep_small.ensures.graph

pub least_on-requires-clause-small : goal.least_on-requires-clause-small
least_on-requires-clause-small g c = c.in_ok-keep_small.ensures.small

pub returns-clause-search : goal.returns-clause-search
returns-clause-search g c =
    let r = c.requires.search in
    let o = c.in_ok-least.ensures in
    record { first = r.first; begins = r.begins; warm = o.graph; cold = r.cold; shift = o.places }

pub returns-clause-least : goal.returns-clause-least
returns-clause-least g c =
    let fp : FitsSigned w128 c.args.p = c.ranges.p in
    simp to_z-of_z at c.in_ok-least.ensures.least
