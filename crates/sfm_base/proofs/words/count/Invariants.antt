-- the total is how many places the words so far have
use Rattle.std.proofs.Common.{◌≡◌, ◌*◌}
use Rattle.sfm_spec.specs.Sets.{size}
use Rattle.sfm_base.specs.Words.{members}
use Rattle.sfm_base.proofs.words.count.Given as goal

abbrev pub invariant-loop-word : goal.invariant-loop-word
invariant-loop-word l = l.total ≡ size (members (64 * l.word-index) l.words)
