use Rattle.std.proofs.Common.{arith}
use Rattle.sfm_flip.proofs.Turning.{turned_each}
use Rattle.sfm_flip.proofs.flip.turn.Goals as goal

pub returns : goal.returns
returns c =
    let inv = c.loop-a.invariant in
    turned_each c.args.x.now c.loop-a.x (omega (arith, c.loop-a.auto.x))
    (λ i lt. inv.done i (omega (arith, lt, c.loop-a-test.false, c.loop-a.auto.a-index-end)))
