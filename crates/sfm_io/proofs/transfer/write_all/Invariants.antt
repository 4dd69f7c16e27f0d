use Rattle.std.proofs.Common.{length, ◌-◌}
use Rattle.sfm_io.proofs.SinkLemmas.{HasTaken}
use Rattle.sfm_io.proofs.transfer.write_all.Given as goal

abbrev pub invariant-loop-done : goal.invariant-loop-done
invariant-loop-done g l = HasTaken (g.K.Sink.state l.fn.sink) l.bytes l.done (g.K.Sink.state l.sink)

abbrev pub decreases-loop-done : goal.decreases-loop-done
decreases-loop-done g l = length l.bytes - l.done
