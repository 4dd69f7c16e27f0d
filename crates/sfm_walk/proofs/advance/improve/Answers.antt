use Rattle.std.proofs.Common.{arith, FitsSigned}
use Rattle.std.proofs.lemmas.Int.{ints, to_z-of_z}
use mir.Syntax.{w128}
use Rattle.sfm_walk.proofs.Gaps.{deficit_low}
use Rattle.sfm_walk.proofs.advance.improve.Goals as goal

pub improve_from-requires-clause-room : goal.improve_from-requires-clause-room
improve_from-requires-clause-room g c = c.requires.room

pub improve_from-requires-clause-shifts : goal.improve_from-requires-clause-shifts
improve_from-requires-clause-shifts g c = c.requires.shifts

pub improve_from-requires-clause-graph : goal.improve_from-requires-clause-graph
improve_from-requires-clause-graph g c =
    let fq : FitsSigned w128 c.args.q = c.ranges.q in
    simp to_z-of_z c.requires.graph

pub improve_from-requires-clause-small : goal.improve_from-requires-clause-small
improve_from-requires-clause-small g c = λ k d l i e lt.
    let s = c.requires.small k d l i e lt in
    record { low = omega (arith, ints, s.low); high = omega (arith, ints, s.high) }

pub improve_from-requires-clause-gap : goal.improve_from-requires-clause-gap
improve_from-requires-clause-gap g c =
    let t = g.T.Term in
    let r = c.requires in
    deficit_low t.places t.value_of c.args.terms.now c.args.graph.now.bases c.args.shift.now
    r.small r.graph.bounded.few_places r.shifts

pub returns-clause-improved : goal.returns-clause-improved
returns-clause-improved g c =
    let fq : FitsSigned w128 c.args.q = c.ranges.q in
    simp to_z-of_z at c.improve_from.ensures.improved

pub returns-clause-few : goal.returns-clause-few
returns-clause-few g c = c.improve_from.ensures.few

pub returns-clause-kept : goal.returns-clause-kept
returns-clause-kept g c = c.improve_from.ensures.kept
