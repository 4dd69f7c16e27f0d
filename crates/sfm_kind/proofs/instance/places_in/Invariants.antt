-- The places of the terms so far.
use Rattle.std.proofs.Common.{◌≡◌, take}
use Rattle.sfm_kind.specs.Instance.{support_of}
use Rattle.sfm_kind.proofs.instance.places_in.Given as goal

abbrev pub invariant-loop-term : goal.invariant-loop-term
invariant-loop-term l = l.places ≡ support_of (take l.term-index l.terms)
