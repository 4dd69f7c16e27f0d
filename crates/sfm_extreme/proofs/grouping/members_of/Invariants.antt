-- the places so far are marked
use Rattle.std.proofs.Common.{length}
use Rattle.sfm_extreme.specs.Pulls.{Pulls}
use Rattle.sfm_extreme.proofs.Groups.{IsMarked}
use Rattle.sfm_extreme.proofs.grouping.members_of.Given as goal

abbrev pub invariant-loop-d : goal.invariant-loop-d
invariant-loop-d l = IsMarked (length l.rows) l.d
    (λ d. Pulls l.rows l.first d × Pulls l.rows d l.first) l.members
