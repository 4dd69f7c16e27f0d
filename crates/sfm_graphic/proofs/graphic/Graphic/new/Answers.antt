use Rattle.std.proofs.Common.{◌∙◌, length, ap, sym, arith}
use Rattle.std.proofs.lemmas.Int.{to_z-of_z}
use mir.Syntax.{w128}
use Rattle.sfm_law.proofs.Fits.{given_fits}
use Rattle.sfm_base.proofs.Elements.{placed_few}
use Rattle.sfm_graphic.specs.Graphs.{graphic_basis}
use Rattle.sfm_graphic.specs.Numbered.{numbered, vertex_count}
use Rattle.sfm_matroid.proofs.Passed.{given_passed, low_passed}
use Rattle.sfm_graphic.proofs.Labels.{length-edges}
use Rattle.sfm_graphic.proofs.graphic.Graphic.new.Goals as goal

pub numbered-requires : goal.numbered-requires
numbered-requires c = let few = placed_few 256 c.args.elements.now
    c.requires.elements.placed in omega (arith, few, c.requires.same_count)

pub invariant_of-result-clause-few : goal.invariant_of-result-clause-few
invariant_of-result-clause-few c =
    rw c.in_ok-places.ensures (placed_few 256 c.args.elements.now c.requires.elements.placed)

pub invariant_of-result-clause-same_count : goal.invariant_of-result-clause-same_count
invariant_of-result-clause-same_count c = ap length c.in_ok-own.ensures
    ∙ (length-edges c.args.ends.now
    ∙ (c.requires.same_count ∙ ap length (sym c.in_ok-places.ensures)))

pub invariant_of-result-clause-based : goal.invariant_of-result-clause-based
invariant_of-result-clause-based c = c.in_ok-basis.ensures
    ∙ ap graphic_basis (sym c.in_ok-own.ensures)

pub invariant_of-result-clause-of_ends : goal.invariant_of-result-clause-of_ends
invariant_of-result-clause-of_ends c = c.in_ok-graph.ensures.ends
    ∙ ap numbered (sym c.in_ok-own.ensures)

pub invariant_of-result-clause-counted : goal.invariant_of-result-clause-counted
invariant_of-result-clause-counted c = c.in_ok-graph.ensures.vertices
    ∙ ap vertex_count (sym c.in_ok-own.ensures)

pub invariant_of-result-clause-elements : goal.invariant_of-result-clause-elements
invariant_of-result-clause-elements c = rw c.in_ok-places.ensures c.requires.elements

pub invariant_of-result-clause-low : goal.invariant_of-result-clause-low
invariant_of-result-clause-low c = low_passed c.args.w c.requires.given c.requires.low

pub invariant_of-result-clause-given : goal.invariant_of-result-clause-given
invariant_of-result-clause-given c = given_passed c.args.w c.requires.given

pub returns-clause-places : goal.returns-clause-places
returns-clause-places c = c.in_ok-places.ensures

pub returns-clause-number : goal.returns-clause-number
returns-clause-number c = to_z-of_z w128 c.args.w (given_fits c.args.w c.requires.given)

pub returns-clause-ends : goal.returns-clause-ends
returns-clause-ends c = c.in_ok-own.ensures
