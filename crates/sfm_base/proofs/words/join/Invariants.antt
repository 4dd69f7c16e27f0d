-- the words so far are joined with the others
use Rattle.sfm_base.proofs.Joining.{IsJoined}
use Rattle.sfm_base.proofs.words.join.Given as goal

abbrev pub invariant-loop-k : goal.invariant-loop-k
invariant-loop-k l = IsJoined l.joining l.initial.words l.other l.words l.k
