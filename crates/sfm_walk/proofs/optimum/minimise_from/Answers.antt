use Rattle.std.proofs.Common.{arith, FitsSigned}
use Rattle.std.proofs.lemmas.Int.{ints, to_z-of_z}
use mir.Syntax.{w128}
use Rattle.sfm_walk.proofs.Spreads.{spread_in_all}
use Rattle.sfm_exchange.proofs.ClaimedGraphs.{whole_claimed}
use Rattle.sfm_walk.proofs.optimum.minimise_from.Goals as goal

pub graph_at-requires-clause-bounded : goal.graph_at-requires-clause-bounded
graph_at-requires-clause-bounded g c = c.requires.bounded

pub graph_at-requires-clause-factor : goal.graph_at-requires-clause-factor
graph_at-requires-clause-factor g c =
    let fq : FitsSigned w128 c.args.q = c.ranges.q in
    simp to_z-of_z c.requires.factor

pub graph_at-requires-clause-bases : goal.graph_at-requires-clause-bases
graph_at-requires-clause-bases g c =
    let fq : FitsSigned w128 c.args.q = c.ranges.q in
    simp to_z-of_z c.requires.bases

pub graph_at-requires-clause-small : goal.graph_at-requires-clause-small
graph_at-requires-clause-small g c = λ k d l i e lt.
    let s = c.requires.small k d l i e lt in
    record { low = omega (arith, ints, s.low); high = omega (arith, ints, s.high) }

pub improve-requires-clause-room : goal.improve-requires-clause-room
improve-requires-clause-room g c = c.requires.room

pub improve-requires-clause-shifts : goal.improve-requires-clause-shifts
improve-requires-clause-shifts g c = c.requires.shifts

pub improve-requires-clause-graph : goal.improve-requires-clause-graph
improve-requires-clause-graph g c =
    let fq : FitsSigned w128 c.args.q = c.ranges.q in
    let r = c.requires in
    let exact = simp to_z-of_z at c.in_ok-graph.ensures.graph in
    simp to_z-of_z
    (whole_claimed (record { bounded = r.bounded; factor = r.factor; exact = exact }))

pub improve-requires-clause-small : goal.improve-requires-clause-small
improve-requires-clause-small g c = rw c.in_ok-graph.ensures.bases c.requires.small

pub returns-clause-optimum : goal.returns-clause-optimum
returns-clause-optimum g c =
    let fq : FitsSigned w128 c.args.q = c.ranges.q in
    let improved = simp to_z-of_z at c.in_ok-z.ensures.improved in
    record {
      optimal = rw c.into_bases.ensures improved.optimal;
      rest = rw c.into_bases.ensures improved.rest;
    }

pub returns-clause-counted : goal.returns-clause-counted
returns-clause-counted g c =
    let fq : FitsSigned w128 c.args.q = c.ranges.q in
    let known = rw c.in_ok-graph.ensures.bases at c.in_ok-z.ensures.improved.counted in
    rw c.into_bases.ensures (simp to_z-of_z at known)

pub returns-clause-spread : goal.returns-clause-spread
returns-clause-spread g c =
    let t = g.T.Term in
    let known = rw c.in_ok-graph.ensures.bases at c.in_ok-z.ensures.improved.spread in
    rw c.into_bases.ensures (spread_in_all t.places t.value_of c.args.terms.now c.args.shift.now
    c.args.bases c.improve.new.graph.bases known)

pub returns-clause-few : goal.returns-clause-few
returns-clause-few g c = c.improve.ensures.few

pub returns-clause-kept : goal.returns-clause-kept
returns-clause-kept g c = c.improve.ensures.kept

pub returns-in_err-z-clause-few : goal.returns-in_err-z-clause-few
returns-in_err-z-clause-few g c = c.improve.ensures.few

pub returns-in_err-z-clause-kept : goal.returns-in_err-z-clause-kept
returns-in_err-z-clause-kept g c = c.improve.ensures.kept

pub returns-in_err-graph-clause-few : goal.returns-in_err-graph-clause-few
returns-in_err-graph-clause-few g c = omega arith
