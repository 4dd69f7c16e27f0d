use Rattle.std.proofs.lemmas.List.{take_rest}
use Rattle.sfm_io.proofs.SinkLemmas.{HasTaken-more}
use Rattle.sfm_io.proofs.transfer.write_all.Goals as goal

pub loop-done-preserved : goal.loop-done-preserved
loop-done-preserved g c = HasTaken-more c.loop-done.invariant (rw take_rest at c.in_ok-done.ensures)
    c.loop-done-test.true
