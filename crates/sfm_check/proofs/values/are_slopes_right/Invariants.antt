-- what the set before is worth, and the tests of the slopes before
use Rattle.std.proofs.Common.{ℕ, ◌<◌, map}
use Rattle.sfm_spec.specs.Sets.{empty_set}
use Rattle.sfm_cert.specs.Answer.{mark_of}
use Rattle.sfm_check.specs.Findings.{set_before}
use Rattle.sfm_check.specs.Values.{IsSmall, IsStepAt, IsWorth}
use Rattle.sfm_check.specs.Offers.{elements, meant, of_offer, said}
use Rattle.sfm_check.proofs.values.are_slopes_right.Given as goal

abbrev pub invariant-loop-k : goal.invariant-loop-k
invariant-loop-k l = IsWorth (meant l.offer) l.offer.sizes.now
    (set_before (empty_set (elements l.offer)) (map mark_of (said l.offer).breaks) l.k) l.before
    × IsSmall l.before
    × ((j : ℕ) → j < l.k → of_offer IsStepAt l.offer j)
