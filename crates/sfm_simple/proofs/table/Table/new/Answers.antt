use Rattle.std.proofs.Common.{◌≡◌, ◌<◌, ℤ, pos, length, get_or, of_z, arith}
use Rattle.std.proofs.Math.Pow.{pow_mono}
use Rattle.std.proofs.lemmas.Int.{ints}
use Rattle.std.proofs.lemmas.List.Elements.{All-get_or}
use Rattle.std.proofs.lemmas.Nat.{pow_pos}
use Rattle.sfm_spec.specs.Bounds.{IsGiven}
use mir.Syntax.{w128}
use Rattle.sfm_law.specs.Values.{greatest}
use Rattle.sfm_law.proofs.Entries.{told_of_kept}
use Rattle.sfm_simple.specs.TableLaws.{table-submodular}
use Rattle.sfm_simple.proofs.table.Table.new.Goals as goal

pub invariant_of-result-clause-few : goal.invariant_of-result-clause-few
invariant_of-result-clause-few c = rw c.in_ok-places.ensures c.requires.few

pub invariant_of-result-clause-few_values : goal.invariant_of-result-clause-few_values
invariant_of-result-clause-few_values c =
    let low = pow_mono c.requires.few in
    rw c.in_ok-values.ensures (omega (arith, low, c.requires.counted))

pub invariant_of-result-clause-given : goal.invariant_of-result-clause-given
invariant_of-result-clause-given c = rw c.in_ok-values.ensures c.requires.given

pub invariant_of-result-clause-topped : goal.invariant_of-result-clause-topped
invariant_of-result-clause-topped c = told_of_kept greatest c.greatest_magnitude-most.result _ _
    (record { sfits = c.greatest_magnitude-most.type_inv }) c.greatest_magnitude-most.ensures
    c.in_ok-values.ensures

pub invariant_of-result-clause-elements : goal.invariant_of-result-clause-elements
invariant_of-result-clause-elements c = rw c.in_ok-places.ensures c.requires.elements

pub invariant_of-result-clause-counted : goal.invariant_of-result-clause-counted
invariant_of-result-clause-counted c =
    rw (c.in_ok-places.ensures, c.in_ok-values.ensures) c.requires.counted

from_bits : (a : ℤ) → IsGiven a → of_z w128 a ≡ 0 → a ≡ pos 0
from_bits a h z = omega (arith, ints, z)

pub invariant_of-result-clause-lawful : goal.invariant_of-result-clause-lawful
invariant_of-result-clause-lawful c =
    let values = c.args.values.now in
    let some : 0 < length values = omega (
      arith,
      c.requires.counted,
      pow_pos (length c.args.elements.now),
    ) in
    let zero = from_bits (get_or values 0 (pos 0))
    (All-get_or IsGiven values 0 (pos 0) some c.requires.given) c.if-values-ne0.false in
    rw (c.in_ok-places.ensures, c.in_ok-values.ensures)
    (table-submodular (length c.args.elements.now) values zero c.in_default.ensures)
