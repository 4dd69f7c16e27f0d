use Rattle.std.proofs.Common.{◌≡◌, map, pos, ap, refl, ◌∙◌, FitsSigned, arith}
use Rattle.std.proofs.lemmas.Int.{ints, to_z-of_z}
use mir.Syntax.{w128}
use Rattle.sfm_exchange.specs.Scaled.{rows_times}
use Rattle.sfm_exchange.proofs.Scaling.{starts_times}
use Rattle.sfm_walk.proofs.Starting.{starts_bounded, starts_plain_bounded}
use Rattle.sfm_walk.proofs.optimum.improve_from_start.Given as given
use Rattle.sfm_walk.proofs.optimum.improve_from_start.Goals.{In_ok-restart_by}
use Rattle.sfm_walk.proofs.optimum.improve_from_start.Goals as goal

-- the graph begins at the first bases at the factor
begins : (g : given.Over) (c : In_ok-restart_by g)
    → let t = g.T.Term in c.restart_by.new.graph.bases ≡ map (λ x. t.start_of x c.args.q)
    c.args.terms.now
begins g c =
    let t = g.T.Term in
    let m = g.met.T.Term in
    let fq : FitsSigned w128 c.args.q = c.ranges.q in
    let told = simp to_z-of_z at c.in_ok-restart_by.ensures.bases in
    told ∙ (ap (rows_times c.args.q) c.requires.begins
    ∙ starts_times t.start_of m.starts_times c.args.q c.args.terms.now)

pub restart_by-requires-clause-small : goal.restart_by-requires-clause-small
restart_by-requires-clause-small g c =
    let t = g.T.Term in
    let m = g.met.T.Term in
    let s = starts_plain_bounded t.places t.value_of t.size_of m.submodular m.bounded _
    c.args.terms.now c.requires.bounded t.start_of (pos 1) (λ x. m.starts_small x (pos 1))
    refl in
    rw c.requires.begins (λ k d l i e lt.
    let b = s k d l i e lt in record {
      low = omega (arith, ints, b.low);
      high = omega (arith, ints, b.high);
    })

pub improve-requires-clause-small : goal.improve-requires-clause-small
improve-requires-clause-small g c =
    let t = g.T.Term in
    let m = g.met.T.Term in
    rw (begins g (goal.at.improve-requires-clause-small g c).In_ok-restart_by)
    (starts_bounded t.places t.value_of t.size_of m.submodular m.bounded _ c.args.terms.now
    c.requires.bounded t.start_of c.args.q (λ x. m.starts_small x c.args.q) c.requires.factor)

pub returns-clause-few : goal.returns-clause-few
returns-clause-few g c =
    let fq : FitsSigned w128 c.args.q = c.ranges.q in
    let from_start = rw (begins g (goal.at.returns-clause-few g c).In_ok-restart_by) at
    (simp to_z-of_z at c.in_ok-improve.ensures.improved.counted) in
    (from_start.0, from_start.1, from_start.2)

pub restart_by-requires-clause-graph : goal.restart_by-requires-clause-graph
restart_by-requires-clause-graph g c = rw c.requires.graph.are_spots.count c.requires.graph

pub restart_by-requires-clause-other : goal.restart_by-requires-clause-other
restart_by-requires-clause-other g c = rw c.requires.graph.are_spots.count c.requires.firsts

pub improve-requires-clause-graph : goal.improve-requires-clause-graph
improve-requires-clause-graph g c =
    rw c.requires.graph.are_spots.count at c.in_ok-restart_by.ensures.graph

pub returns-clause-graph : goal.returns-clause-graph
returns-clause-graph g c = let fq : FitsSigned w128 c.args.q = c.ranges.q in simp to_z-of_z at
    c.in_ok-improve.ensures.improved.graph

pub returns-clause-optimal : goal.returns-clause-optimal
returns-clause-optimal g c =
    let fq : FitsSigned w128 c.args.q = c.ranges.q in
    simp to_z-of_z at c.in_ok-improve.ensures.improved.optimal

pub restart_by-requires-clause-factor : goal.restart_by-requires-clause-factor
restart_by-requires-clause-factor g c =
    let fq : FitsSigned w128 c.args.q = c.ranges.q in simp to_z-of_z c.requires.factor

pub improve-requires-clause-shifts : goal.improve-requires-clause-shifts
improve-requires-clause-shifts g c = c.requires.shifts
