use Rattle.std.proofs.Common.{◌≡◌, ◌∙◌, length, ap, sym, FitsSigned}
use Rattle.std.proofs.lemmas.Int.{to_z-of_z}
use mir.Syntax.{w128}
use Rattle.sfm_graphic.specs.Numbered.{vertex_capacities}
use Rattle.sfm_graphic.proofs.Labels.{length-edges}
use Rattle.sfm_graphic.proofs.Numbering.{length-vertices, vertices_bounded}
use Rattle.sfm_graphic.proofs.testing.end_demand.Goals.{After-deref}
use Rattle.sfm_graphic.proofs.testing.end_demand.Goals as goal

-- what each vertex may hold
held : (c : After-deref) → c.deref.result.now ≡ vertex_capacities c.args.graph.now.vertices
    c.args.most c.args.a
held c = let fm : FitsSigned w128 c.args.most = c.ranges.most in c.deref.ensures.value
    ∙ simp to_z-of_z at c.in_ok-capacities.ensures

pub with_room-requires-clause-bounded : goal.with_room-requires-clause-bounded
with_room-requires-clause-bounded c =
    rw (held (goal.at.with_room-requires-clause-bounded c).After-deref)
    (vertices_bounded c.args.graph.now.vertices c.args.most c.args.a c.requires.low c.requires.high)

pub push_ends-requires-clause-few : goal.push_ends-requires-clause-few
push_ends-requires-clause-few c = rw c.as_slice.ensures c.args.graph.now.few

pub push_ends-requires-clause-sized : goal.push_ends-requires-clause-sized
push_ends-requires-clause-sized c = c.requires.sized
    ∙ (length-edges _ ∙ sym (ap length c.as_slice.ensures))

pub push_ends-requires-clause-amounts : goal.push_ends-requires-clause-amounts
push_ends-requires-clause-amounts c = c.requires.amounts

pub push_ends-requires-clause-below : goal.push_ends-requires-clause-below
push_ends-requires-clause-below c =
    let caps = ap (λ d. d.capacities) c.in_ok-demand.ensures
    ∙ held (goal.at.push_ends-requires-clause-below c).After-deref in
    rw (c.as_slice.ensures, caps, length-vertices c.args.graph.now.vertices c.args.most c.args.a)
    c.args.graph.now.below

pub push_ends-requires-clause-none : goal.push_ends-requires-clause-none
push_ends-requires-clause-none c =
    (ap (λ d. d.demands) c.in_ok-demand.ensures, ap (λ d. d.lists) c.in_ok-demand.ensures)

pub returns : goal.returns
returns c =
    let caps = ap (λ d. d.capacities) c.in_ok-demand.ensures
    ∙ held (goal.at.returns c).After-deref in
    rw (c.as_slice.ensures, caps) at c.in_ok-push_ends.ensures
