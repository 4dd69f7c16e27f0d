use Rattle.std.proofs.Common.{length, arith}
use Rattle.sfm_due.proofs.Feeds.{feeds-fault, feeds-read}
use Rattle.sfm_due.proofs.feed.feed_on.Goals as goal

pub returns-in-Err : goal.returns-in-Err
returns-in-Err g c = feeds-fault _ _ c.args.reader.now (length c.args.buffer.now) _ _
    c.in-Err.ensures

pub returns-in-Ok : goal.returns-in-Ok
returns-in-Ok g c = feeds-read _ _ c.args.reader.now c.pass_on.new.reader (length c.args.buffer.now)
    c.in-Ok.count c.read.new.buf c.pass_on.result c.in-Ok.ensures (omega arith) c.requires
    c.pass_on.ensures.count c.pass_on.ensures.stands c.pass_on.ensures.wanting
