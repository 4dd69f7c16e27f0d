-- The sizes of the terms so far.
use Rattle.std.proofs.Common.{◌≡◌, take}
use Rattle.sfm_kind.specs.Limits.{total_size_of}
use Rattle.sfm_kind.proofs.instance.size_of.Given as goal

abbrev pub invariant-loop-term : goal.invariant-loop-term
invariant-loop-term l = l.total ≡ total_size_of (take l.term-index l.terms)
