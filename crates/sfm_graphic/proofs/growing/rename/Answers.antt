use Rattle.std.proofs.Common.{arith}
use Rattle.sfm_graphic.proofs.Labels.{renamed_all}
use Rattle.sfm_graphic.proofs.growing.rename.Goals as goal

pub returns : goal.returns
returns c =
    let inv = c.loop-pair.invariant in
    renamed_all c.args.from c.args.to c.args.labels.now c.loop-pair.labels
    (omega (arith, c.loop-pair.auto.labels))
    (λ i lt. inv.done i
    (omega (arith, lt, c.loop-pair-test.false, c.loop-pair.auto.pair-index-end)))
