use Rattle.std.proofs.Common.{◌+ℤ◌, FitsSigned, to_z, refl, ap, arith}
use Rattle.std.proofs.lemmas.Int.{ints, to_z-of_z}
use Rattle.std.proofs.lemmas.List.{take_all}
use Rattle.std.proofs.lemmas.Option.{slice_get-get_or}
use mir.Syntax.{w128}
use Rattle.sfm_kind.specs.Limits.{total_size_of}
use Rattle.sfm_due.proofs.Summing.{turn}
use Rattle.sfm_due.proofs.level.passes_at.Goals as goal

pub loop-i-init : goal.loop-i-init
loop-i-init c = record { so_far = refl; small = omega (arith, ints) }

pub overflow_add-total : goal.overflow_add-total
overflow_add-total c =
    let t = turn c.args.terms.now c.loop-i.i c.index-terms-i.result c.index-terms-i.is
    c.loop-i-test.true c.requires.small in
    let inv = c.loop-i.invariant in
    let fs : FitsSigned w128 c.size-total.result = omega (
      arith,
      ints,
      t.next,
      t.low,
      t.more,
      t.high,
      c.size-total.ensures,
    ) in
    simp to_z-of_z (omega (
      arith,
      ints,
      t.next,
      t.low,
      t.more,
      t.high,
      c.size-total.ensures,
      inv.so_far,
      c.loop-i.total-is,
    ))

pub returns-then-total-gt-LEVEL_LIMIT : goal.returns-then-total-gt-LEVEL_LIMIT
returns-then-total-gt-LEVEL_LIMIT c =
    let t = turn c.args.terms.now c.loop-i.i c.index-terms-i.result c.index-terms-i.is
    c.loop-i-test.true c.requires.small in
    let inv = c.loop-i.invariant in
    let fs : FitsSigned w128 c.size-total.result = omega (
      arith,
      ints,
      t.next,
      t.low,
      t.more,
      t.high,
      c.size-total.ensures,
    ) in
    let sum : FitsSigned w128 (to_z w128 c.loop-i.total-bits +ℤ c.size-total.result) = omega (
      arith,
      ints,
      t.next,
      t.low,
      t.more,
      t.high,
      c.size-total.ensures,
      inv.so_far,
      c.loop-i.total-is,
    ) in
    let above = simp to_z-of_z at c.if-total-gt-LEVEL_LIMIT.true in
    record {
      i = c.loop-i.i;
      line_is = slice_get-get_or c.args.lines.now c.loop-i.i 0
          (rw c.requires.counted c.loop-i-test.true);
      before = omega (arith, ints, inv.so_far, inv.small);
      more = omega (
        arith,
        ints,
        above,
        t.next,
        c.size-total.ensures,
        inv.so_far,
        c.loop-i.total-is,
      );
    }

pub loop-i-preserved : goal.loop-i-preserved
loop-i-preserved c =
    let t = turn c.args.terms.now c.loop-i.i c.index-terms-i.result c.index-terms-i.is
    c.loop-i-test.true c.requires.small in
    let inv = c.loop-i.invariant in
    let fs : FitsSigned w128 c.size-total.result = omega (
      arith,
      ints,
      t.next,
      t.low,
      t.more,
      t.high,
      c.size-total.ensures,
    ) in
    let sum : FitsSigned w128 (to_z w128 c.loop-i.total-bits +ℤ c.size-total.result) = omega (
      arith,
      ints,
      t.next,
      t.low,
      t.more,
      t.high,
      c.size-total.ensures,
      inv.so_far,
      c.loop-i.total-is,
    ) in
    let below = simp to_z-of_z at c.if-total-gt-LEVEL_LIMIT.false in
    record {
      so_far = simp to_z-of_z (omega (
        arith,
        ints,
        t.next,
        c.size-total.ensures,
        inv.so_far,
        c.loop-i.total-is,
      ));
      small = simp to_z-of_z (omega (arith, ints, below));
    }

pub returns : goal.returns
returns c =
    let inv = c.loop-i.invariant in
    let all = take_all c.loop-i.i c.args.terms.now (omega (arith, c.loop-i-test.false)) in
    let whole = ap total_size_of all in
    omega (arith, ints, inv.so_far, inv.small, whole)
