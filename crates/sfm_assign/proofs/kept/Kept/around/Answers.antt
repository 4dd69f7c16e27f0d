use Rattle.std.proofs.Common.{sym, length, ap, ◌∙◌, arith}
use Rattle.std.proofs.lemmas.Bool.{both_ways}
use Rattle.sfm_cells.proofs.Outcomes.{cells_for}
use Rattle.sfm_assign.proofs.Spreads.{answers_none}
use Rattle.sfm_assign.proofs.kept.Kept.around.Goals as goal

pub left_of-requires-clause-same : goal.left_of-requires-clause-same
left_of-requires-clause-same c =
    let k = c.requires in
    let cells = cells_for c.args.demand c.demands.ensures.sound in
    rw (c.deref-2.ensures.value, c.deref.ensures.value, c.all.ensures, k.in_lists)
    (k.part.cells ∙ (ap length k.in_order ∙ sym cells.same))

pub left_of-requires-clause-below : goal.left_of-requires-clause-below
left_of-requires-clause-below c =
    let k = c.requires in
    let cells = cells_for c.args.demand c.demands.ensures.sound in
    rw (c.deref.ensures.value, c.all.ensures, c.capacities.ensures, k.in_lists)
    (λ e lt. let same = cells.same in cells.exist e (omega (arith, lt, same)))

pub left_of-requires-clause-amounts : goal.left_of-requires-clause-amounts
left_of-requires-clause-amounts c = rw c.deref-2.ensures.value c.requires.part.amounts

pub left_of-requires-clause-within : goal.left_of-requires-clause-within
left_of-requires-clause-within c =
    rw (c.deref-2.ensures.value, c.deref.ensures.value, c.all.ensures, c.capacities.ensures)
    c.requires.part.within

pub invariant_of-result : goal.invariant_of-result
invariant_of-result c =
    let b = c.in_ok-beside.ensures in
    record {
      met = c.requires;
      left = rw (
        c.deref-2.ensures.value,
        c.deref.ensures.value,
        c.all.ensures,
        c.capacities.ensures,
      ) at c.in_ok-rooms.ensures;
      few = rw b.answers (omega arith);
      each = b.asking ∙ ap length c.demands.ensures.value;
      asked = λ h. absurd (both_ways _ b.counted h);
      known = rw b.answers (answers_none _ _ _ _ _);
    }
