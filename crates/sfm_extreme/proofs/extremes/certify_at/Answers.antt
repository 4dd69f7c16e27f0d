use Rattle.std.proofs.Common.{◌↔◌, FitsSigned}
use Rattle.std.proofs.lemmas.Int.{to_z-of_z}
use Rattle.std.proofs.lemmas.Result.{IfOk-weaker}
use Rattle.std.specs.Prelude.{IfOk}
use mir.Syntax.{w128}
use Rattle.sfm_spec.specs.Families.{meanings, Prove}
use Rattle.sfm_extreme.specs.Certified.{IsAnswer, IsProved}
use Rattle.sfm_extreme.proofs.extremes.certify_at.Given as given
use Rattle.sfm_extreme.proofs.extremes.certify_at.Goals as goal
use Rattle.sfm_extreme.proofs.extremes.certify_at.Goals.{After-told_by}

-- what is told of the graph is told of the bases
told : (g : given.Over) (c : After-told_by g)
    → let t = g.T.Term in let ts = meanings t.places t.value_of c.args.terms.now in
    IfOk c.told_by.result (λ r. IsAnswer ts c.args.n c.args.q c.args.shift.now c.args.bases.now r
    × (IsProved r ↔ Prove ts c.args.n c.args.q c.args.shift.now c.args.bases.now))
told g c =
    let fq : FitsSigned w128 c.args.q = c.ranges.q in
    rw (c.requires.each, c.in_ok-reading.ensures.graph, c.in_ok-graph.ensures.bases) at
    (simp to_z-of_z at c.told_by.ensures)

pub read_graph-requires-clause-whole : goal.read_graph-requires-clause-whole
read_graph-requires-clause-whole g c =
    let fq : FitsSigned w128 c.args.q = c.ranges.q in
    (c.args.q, rw c.requires.each (simp to_z-of_z at c.in_ok-graph.ensures.graph))

pub read_graph-requires-clause-small : goal.read_graph-requires-clause-small
read_graph-requires-clause-small g c = rw c.in_ok-graph.ensures.bases c.requires.small

pub told_by-requires-clause-reading : goal.told_by-requires-clause-reading
told_by-requires-clause-reading g c =
    let fq : FitsSigned w128 c.args.q = c.ranges.q in
    simp to_z-of_z (c.in_ok-reading.ensures.reading c.args.q
    (rw c.requires.each (simp to_z-of_z at c.in_ok-graph.ensures.graph)))

pub told_by-requires-clause-small : goal.told_by-requires-clause-small
told_by-requires-clause-small g c = rw (c.in_ok-reading.ensures.graph, c.in_ok-graph.ensures.bases)
    c.requires.small

pub returns-clause-answer : goal.returns-clause-answer
returns-clause-answer g c =
    IfOk-weaker c.told_by.result _ _ (λ r h. h.0)
    (told g (goal.at.returns-clause-answer g c).After-told_by)

pub returns-clause-exact : goal.returns-clause-exact
returns-clause-exact g c =
    IfOk-weaker c.told_by.result _ _ (λ r h. h.1)
    (told g (goal.at.returns-clause-exact g c).After-told_by)
