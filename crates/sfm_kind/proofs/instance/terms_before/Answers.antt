-- The terms so far and those of one more line are no more than all.
use Rattle.std.proofs.Common.{arith}
use Rattle.sfm_kind.proofs.Lined.{before-fits}
use Rattle.sfm_kind.proofs.instance.terms_before.Goals as goal

pub overflow_add-before : goal.overflow_add-before
overflow_add-before c =
    let few = before-fits c.args.lines.now c.loop-j.j _ c.loop-j.before c.width-before.result
    (omega (arith, c.requires.within, c.loop-j-test.true)) c.requires.few c.loop-j.invariant
    c.width-before.ensures in
    omega (arith, few)
