use Rattle.std.proofs.Common.{refl}
use Rattle.sfm_demo.proofs.Pieces.{names_more, names_none}
use Rattle.sfm_demo.proofs.words.write_run.Goals as goal

pub loop-j-init : goal.loop-j-init
loop-j-init c = names_none c.args.p c.args.step _

pub loop-j-preserved : goal.loop-j-preserved
loop-j-preserved c = names_more c.args.p c.args.step c.loop-j.j _ _ _ _ refl c.loop-j.invariant
    c.in_ok-write.ensures.bytes
