-- The sizes so far and that of one more term are no more than all.
use Rattle.std.proofs.Common.{◌+ℤ◌, FitsSigned, to_z, arith}
use Rattle.std.proofs.lemmas.Int.{ints, to_z-of_z}
use mir.Syntax.{w128}
use Rattle.sfm_kind.proofs.Lined.{size-next}
use Rattle.sfm_kind.proofs.instance.size_of.Goals as goal

pub overflow_add-total : goal.overflow_add-total
overflow_add-total c =
    let n = size-next c.args.terms.now c.loop-term.term-index c.term-item.result
    (to_z w128 c.loop-term.total-bits) c.size-total.result c.loop-term-test.true c.term-item.is
    c.requires c.loop-term.invariant c.size-total.ensures in
    let fits : FitsSigned w128 c.size-total.result = omega (
      arith,
      ints,
      n.low,
      n.size_low,
      n.small,
    ) in
    simp to_z-of_z (omega (arith, ints, n.low, n.size_low, n.small))

pub loop-term-preserved : goal.loop-term-preserved
loop-term-preserved c =
    let n = size-next c.args.terms.now c.loop-term.term-index c.term-item.result
    (to_z w128 c.loop-term.total-bits) c.size-total.result c.loop-term-test.true c.term-item.is
    c.requires c.loop-term.invariant c.size-total.ensures in
    let fits : FitsSigned w128 c.size-total.result = omega (
      arith,
      ints,
      n.low,
      n.size_low,
      n.small,
    ) in
    let sum : FitsSigned w128 (to_z w128 c.loop-term.total-bits +ℤ c.size-total.result) =
    omega (arith, ints, n.low, n.size_low, n.small) in
    simp to_z-of_z n.next
