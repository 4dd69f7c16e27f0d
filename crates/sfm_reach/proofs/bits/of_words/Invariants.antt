-- the words so far are written
use Rattle.sfm_reach.proofs.Words.{HasWords}
use Rattle.sfm_reach.proofs.bits.of_words.Given as goal

abbrev pub invariant-loop-k : goal.invariant-loop-k
invariant-loop-k l = HasWords l.words l.k l.bits
