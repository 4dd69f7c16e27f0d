use Rattle.std.proofs.Common.{length, ◌∙◌, FitsSigned, arith, rules}
use Rattle.std.proofs.lemmas.Int.{ints, to_z-of_z}
use mir.Syntax.{w128}
use Rattle.sfm_spec.specs.Families.{meanings, IsLeast, Prove}
use Rattle.sfm_law.specs.Rest.{IsRest}
use Rattle.sfm_law.proofs.Rests.{rest-total}
use Rattle.sfm_extreme.proofs.Deficits.{deficit_by_rest, value_by_prove}
use Rattle.sfm_slope.proofs.least.least_by.Given as given
use Rattle.sfm_slope.proofs.least.least_by.Goals as goal
use Rattle.sfm_slope.proofs.least.least_by.Goals.{After-as_slice}

pub improve-requires-clause-shifts : goal.improve-requires-clause-shifts
improve-requires-clause-shifts g c = c.requires.shifts

pub improve-requires-clause-graph : goal.improve-requires-clause-graph
improve-requires-clause-graph g c =
    let fq : FitsSigned w128 c.args.q = c.ranges.q in
    simp to_z-of_z c.requires.graph

pub least_minimiser-requires-clause-graph : goal.least_minimiser-requires-clause-graph
least_minimiser-requires-clause-graph g c = c.in_ok-z.ensures.improved.graph

pub least_minimiser-requires-clause-small : goal.least_minimiser-requires-clause-small
least_minimiser-requires-clause-small g c = c.in_ok-z.ensures.improved.optimal.small

pub least_minimiser-requires-clause-rest : goal.least_minimiser-requires-clause-rest
least_minimiser-requires-clause-rest g c =
    let rest = c.in_ok-z.ensures.improved.rest in
    (rest.places, λ e l. rest.exact e (rw rest.places l))

pub least_minimiser-requires-clause-proves : goal.least_minimiser-requires-clause-proves
least_minimiser-requires-clause-proves g c = c.in_ok-z.ensures.improved.optimal.proves

-- z is what is left of the bases
left : (g : given.Over) (c : After-as_slice g) → let t = g.T.Term in
    IsRest (meanings t.places t.value_of c.args.terms.now) c.args.shift.now
    c.improve.new.graph.bases c.as_slice.result.now
left g c = rw c.as_slice.ensures c.in_ok-z.ensures.improved.rest

pub deficit_of-value-requires : goal.deficit_of-value-requires
deficit_of-value-requires g c =
    let t = g.T.Term in
    let b = c.requires.graph.bounded in
    let sh = c.requires.shifts in
    rest-total t.places t.value_of c.args.terms.now c.args.shift.now c.improve.new.graph.bases
    c.as_slice.result.now
    (left g (goal.at.deficit_of-value-requires g c).After-as_slice)
    c.in_ok-z.ensures.improved.optimal.small b.few_places b.few (omega (arith, ints, sh))

pub returns-clause-value : goal.returns-clause-value
returns-clause-value g c =
    let t = g.T.Term in
    let fq : FitsSigned w128 c.args.q = c.ranges.q in
    let ts = meanings t.places t.value_of c.args.terms.now in
    let shift = c.args.shift.now in
    let n = length shift in
    let prove : Prove ts n c.args.q shift c.improve.new.graph.bases = simp to_z-of_z at
    c.in_ok-z.ensures.improved.optimal.proves in
    let least : IsLeast ts n c.args.q shift c.in_ok-set.set = simp to_z-of_z at
    c.in_ok-set.ensures.least in
    let is = deficit_by_rest ts shift c.improve.new.graph.bases c.as_slice.result.now
    (left g (goal.at.returns-clause-value g c).After-as_slice) in
    let fv : FitsSigned w128 c.deficit_of-value.result = search rules in
    simp to_z-of_z (c.deficit_of-value.ensures
    ∙ (is ∙ value_by_prove ts n c.args.q shift c.improve.new.graph.bases c.in_ok-set.set prove
    least.minimiser))

pub returns-clause-least : goal.returns-clause-least
returns-clause-least g c =
    let fq : FitsSigned w128 c.args.q = c.ranges.q in
    simp to_z-of_z at c.in_ok-set.ensures.least

pub returns-clause-graph : goal.returns-clause-graph
returns-clause-graph g c =
    let fq : FitsSigned w128 c.args.q = c.ranges.q in
    simp to_z-of_z at c.in_ok-set.ensures.graph
