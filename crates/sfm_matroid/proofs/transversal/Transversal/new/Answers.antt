use Rattle.std.proofs.Common.{◌∙◌, length, ap, refl, sym, arith}
use Rattle.std.proofs.lemmas.Int.{to_z-of_z}
use mir.Syntax.{w128}
use Rattle.sfm_law.proofs.Fits.{given_fits}
use Rattle.sfm_base.proofs.Elements.{placed_few}
use Rattle.sfm_matroid.specs.Slots.{transversal_basis}
use Rattle.sfm_matroid.proofs.Passed.{given_passed, low_passed}
use Rattle.sfm_matroid.proofs.transversal.Transversal.new.Goals as goal

pub invariant_of-result-clause-few : goal.invariant_of-result-clause-few
invariant_of-result-clause-few c =
    rw c.in_ok-places.ensures (placed_few 256 c.args.elements.now c.requires.elements.placed)

pub invariant_of-result-clause-same_count : goal.invariant_of-result-clause-same_count
invariant_of-result-clause-same_count c = c.requires.same_count
    ∙ ap length (sym c.in_ok-places.ensures)

pub invariant_of-result-clause-based : goal.invariant_of-result-clause-based
invariant_of-result-clause-based c = c.in_ok-basis.ensures
    ∙ ap transversal_basis c.in_ok-frame.ensures

pub invariant_of-result-clause-framed : goal.invariant_of-result-clause-framed
invariant_of-result-clause-framed c = c.in_ok-frame.ensures

pub of-requires : goal.of-requires
of-requires c = let h = placed_few 256 c.args.elements.now
    c.requires.elements.placed in omega (arith, h, c.requires.same_count)

pub invariant_of-result-clause-elements : goal.invariant_of-result-clause-elements
invariant_of-result-clause-elements c = rw c.in_ok-places.ensures c.requires.elements

pub invariant_of-result-clause-low : goal.invariant_of-result-clause-low
invariant_of-result-clause-low c = low_passed c.args.w c.requires.given c.requires.low

pub invariant_of-result-clause-given : goal.invariant_of-result-clause-given
invariant_of-result-clause-given c = given_passed c.args.w c.requires.given

pub returns-clause-places : goal.returns-clause-places
returns-clause-places c = c.in_ok-places.ensures

pub returns-clause-number : goal.returns-clause-number
returns-clause-number c = to_z-of_z w128 c.args.w (given_fits c.args.w c.requires.given)

pub returns-clause-entries : goal.returns-clause-entries
returns-clause-entries c = refl
