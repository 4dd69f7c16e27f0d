use Rattle.std.proofs.Common.{arith}
use Rattle.sfm_reach.proofs.Words.{four_words, words_all, words_more}
use Rattle.sfm_reach.proofs.bits.of_words.Goals as goal

pub loop-k-init : goal.loop-k-init
loop-k-init c = record {
  count = omega arith;
  written = λ e l. absurd (omega (arith, l));
  none = λ e l. c.no_bits-bits.ensures e;
}

pub loop-k-preserved : goal.loop-k-preserved
loop-k-preserved c = words_more c.args.words.now c.loop-k.k c.loop-k.bits
    (omega (arith, c.requires, c.loop-k-test.true)) c.loop-k.invariant

pub returns : goal.returns
returns c = words_all c.args.words.now c.loop-k.k c.loop-k.bits c.loop-k-test.false
    c.loop-k.invariant

pub returns-in-len4 : goal.returns-in-len4
returns-in-len4 c = λ e. four_words c.args.words.now e (omega (arith, c.in-len4))
