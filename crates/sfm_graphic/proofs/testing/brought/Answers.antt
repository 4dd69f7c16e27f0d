use Rattle.std.proofs.Common.{◌≡◌, ◌∙◌, length, sym, ap, FitsSigned}
use Rattle.std.proofs.lemmas.Int.{to_z-of_z}
use mir.Syntax.{w128}
use Rattle.sfm_graphic.specs.Numbered.{vertex_capacities}
use Rattle.sfm_graphic.proofs.Numbering.{length-vertices, vertices_bounded}
use Rattle.sfm_graphic.proofs.testing.brought.Goals as goal
use Rattle.sfm_graphic.proofs.testing.brought.Goals.{After-deref}

-- what each vertex may hold
held : (c : After-deref) → c.deref.result.now ≡ vertex_capacities c.args.graph.now.vertices
    c.args.most c.args.a
held c =
    let fm : FitsSigned w128 c.args.most = c.ranges.most in
    c.deref.ensures.value ∙ simp to_z-of_z at c.in_ok-capacities.ensures

pub can_bring-requires-clause-sized : goal.can_bring-requires-clause-sized
can_bring-requires-clause-sized c = c.requires.amounts.sized ∙ sym c.requires.over.places

pub can_bring-requires-clause-slots : goal.can_bring-requires-clause-slots
can_bring-requires-clause-slots c = ap length (held c)
    ∙ (length-vertices c.args.graph.now.vertices c.args.most c.args.a
    ∙ sym c.requires.over.vertices)

pub can_bring-requires-clause-amounts : goal.can_bring-requires-clause-amounts
can_bring-requires-clause-amounts c = c.requires.amounts.amounts

pub can_bring-requires-clause-bounded : goal.can_bring-requires-clause-bounded
can_bring-requires-clause-bounded c =
    rw (held c) (vertices_bounded c.args.graph.now.vertices c.args.most c.args.a
    c.requires.amounts.low c.requires.amounts.high)

pub returns-clause-told : goal.returns-clause-told
returns-clause-told c = rw (c.requires.over.lists, held (goal.at.returns-clause-told c).After-deref)
    at c.can_bring.ensures.told

pub returns-clause-brought : goal.returns-clause-brought
returns-clause-brought c = rw (
  c.requires.over.lists,
  held (goal.at.returns-clause-brought c).After-deref,
) at c.can_bring.ensures.brought
