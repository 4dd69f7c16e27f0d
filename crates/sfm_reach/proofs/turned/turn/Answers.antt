use Rattle.std.proofs.Common.{arith}
use Rattle.sfm_reach.proofs.Picking.{picking_shrinks}
use Rattle.sfm_reach.proofs.Turning.{turning_begun, turning_more, turning_done}
use Rattle.sfm_reach.proofs.turned.turn.Goals as goal

pub loop-t-init : goal.loop-t-init
loop-t-init c = turning_begun c.args.e c.args.before.now c.args.after.now c.differing-changed.result
    c.of-ahead.result c.args.back.now c.differing-changed.ensures c.of-ahead.ensures

pub loop-t-smaller : goal.loop-t-smaller
loop-t-smaller c = picking_shrinks c.loop-t.ahead c.next.new.self c.in-Some.t c.in-Some.ensures

pub loop-t-preserved : goal.loop-t-preserved
loop-t-preserved c =
    turning_more c.args.e c.args.before.now c.args.after.now c.loop-t.ahead c.next.new.self
    c.args.back.now c.loop-t.back c.in-Some.t c.write.new.self c.contains.result
    c.loop-t.invariant (omega (arith, c.requires.count, c.in-Some.ensures.below))
    c.in-Some.ensures
    c.contains.ensures c.write.ensures.written c.write.ensures.others

pub returns-clause-column : goal.returns-clause-column
returns-clause-column c = λ t l.
    turning_done c.args.e c.args.before.now c.args.after.now c.loop-t.ahead c.args.back.now
    c.loop-t.back t c.loop-t.invariant (omega (arith, l, c.requires.count))
    (c.in_default.ensures t) (c.requires.column t l)

pub returns-clause-others : goal.returns-clause-others
returns-clause-others c = c.loop-t.invariant.others
