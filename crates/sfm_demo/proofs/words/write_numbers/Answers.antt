use Rattle.sfm_demo.proofs.Pieces.{numbers_more}
use Rattle.sfm_demo.proofs.words.write_numbers.Goals as goal

pub loop-value-preserved : goal.loop-value-preserved
loop-value-preserved c = numbers_more c.args.values.now c.loop-value.value-index _ _ _
    c.loop-value-test.true c.loop-value.invariant c.in_ok-write.ensures.bytes
