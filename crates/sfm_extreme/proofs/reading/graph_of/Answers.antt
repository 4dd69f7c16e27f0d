use Rattle.std.proofs.Common.{◌∙◌, FitsSigned}
use Rattle.std.proofs.lemmas.Int.{to_z-of_z}
use Rattle.std.proofs.lemmas.Result.{IfOk-weaker}
use mir.Syntax.{w128}
use Rattle.sfm_extreme.proofs.reading.graph_of.Goals as goal

pub graph_at-requires-clause-bounded : goal.graph_at-requires-clause-bounded
graph_at-requires-clause-bounded g c = c.requires.bounded

pub graph_at-requires-clause-factor : goal.graph_at-requires-clause-factor
graph_at-requires-clause-factor g c =
    let fq : FitsSigned w128 c.args.q = c.ranges.q in simp to_z-of_z c.requires.factor

pub graph_at-requires-clause-bases : goal.graph_at-requires-clause-bases
graph_at-requires-clause-bases g c =
    let fq : FitsSigned w128 c.args.q = c.ranges.q in simp to_z-of_z
    (rw c.in_ok-copy.ensures c.requires.bases)

pub graph_at-requires-clause-small : goal.graph_at-requires-clause-small
graph_at-requires-clause-small g c = rw c.in_ok-copy.ensures c.requires.small

pub returns-clause-graph : goal.returns-clause-graph
returns-clause-graph g c =
    let fq : FitsSigned w128 c.args.q = c.ranges.q in
    IfOk-weaker c.graph_at.result _ _
    (λ r h. record { bounded = c.requires.bounded; factor = c.requires.factor; exact = h })
    (simp to_z-of_z at c.graph_at.ensures.graph)

pub returns-clause-bases : goal.returns-clause-bases
returns-clause-bases g c = IfOk-weaker c.graph_at.result _ _ (λ r h. h ∙ c.in_ok-copy.ensures)
    c.graph_at.ensures.bases
