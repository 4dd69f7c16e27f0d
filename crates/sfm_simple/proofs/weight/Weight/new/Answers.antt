use Rattle.std.proofs.Common.{arith}
use Rattle.sfm_spec.specs.Sets.{magnitudes}
use Rattle.sfm_base.proofs.Elements.{placed_few}
use Rattle.sfm_law.proofs.Entries.{told_of_kept}
use Rattle.sfm_simple.proofs.weight.Weight.new.Goals as goal

pub sum_magnitudes-total-requires-clause-few : goal.sum_magnitudes-total-requires-clause-few
sum_magnitudes-total-requires-clause-few c =
    let few = placed_few 256 c.args.elements.now c.requires.elements.placed in
    omega (arith, few, c.requires.same_count)

pub invariant_of-result-clause-few : goal.invariant_of-result-clause-few
invariant_of-result-clause-few c =
    rw c.in_ok-places.ensures (placed_few 256 c.args.elements.now c.requires.elements.placed)

pub invariant_of-result-clause-given : goal.invariant_of-result-clause-given
invariant_of-result-clause-given c = rw c.in_ok-weights.ensures c.requires.given

pub invariant_of-result-clause-totalled : goal.invariant_of-result-clause-totalled
invariant_of-result-clause-totalled c = told_of_kept magnitudes c.sum_magnitudes-total.result _ _
    (record { sfits = c.sum_magnitudes-total.type_inv }) c.sum_magnitudes-total.ensures
    c.in_ok-weights.ensures
