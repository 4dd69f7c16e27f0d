-- none so far
use Rattle.std.proofs.Common.{◌≡◌, None, replicate}
use Rattle.sfm_reach.proofs.noted.no_notes.Given as goal

abbrev pub invariant-loop : goal.invariant-loop
invariant-loop g l = l.notes.items ≡ replicate l.index None
