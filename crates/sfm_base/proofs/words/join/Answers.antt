use Rattle.std.proofs.Common.{refl, arith}
use Rattle.sfm_base.proofs.Joining.{joined_more, joined_all}
use Rattle.sfm_base.proofs.words.join.Goals as goal

pub loop-k-init : goal.loop-k-init
loop-k-init c = record { joined = λ e l. absurd (omega (arith, l)); same = λ e l. refl }

pub loop-k-preserved : goal.loop-k-preserved
loop-k-preserved c = joined_more c.args.joining c.args.words.now c.args.other.now c.loop-k.words
    c.loop-k.k c.of.result (omega arith) c.of.ensures c.loop-k.invariant

pub returns : goal.returns
returns c = joined_all c.args.joining c.args.words.now c.args.other.now c.loop-k.words c.loop-k.k
    c.requires (omega (arith, c.loop-k-test.false, c.loop-k.auto.k-end)) c.loop-k.invariant
