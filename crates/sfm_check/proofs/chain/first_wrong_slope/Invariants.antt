use Rattle.std.proofs.Common.{ℕ, ◌<◌, map}
use Rattle.sfm_spec.specs.Sets.{empty_set}
use Rattle.sfm_spec.specs.Search.{mark_at}
use Rattle.sfm_cert.specs.Answer.{mark_of}
use Rattle.sfm_check.specs.Findings.{IsNextSlope, set_before}
use Rattle.sfm_check.specs.Offers.{elements, meant, said}
use Rattle.sfm_check.proofs.chain.first_wrong_slope.Given as goal

-- the slopes before are right
abbrev pub invariant-loop-k : goal.invariant-loop-k
invariant-loop-k l = (j : ℕ) → j < l.k
    → IsNextSlope (meant l.offer) (elements l.offer) l.offer.sizes.now
    (set_before (empty_set (elements l.offer)) (map mark_of (said l.offer).breaks) j)
    (mark_at (map mark_of (said l.offer).breaks) j)
