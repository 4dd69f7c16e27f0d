-- The greatest independent part that is kept.
use Rattle.std.proofs.Common.{◌≡◌, length, ap, ◌∙◌}
use Rattle.sfm_matroid.specs.Transversals.{length-transversal_basis}
use Rattle.sfm_matroid.specs.declared.transversal.Transversal.{Transversal}

-- what is kept of a term has its places
pub transversal_kept : (s : Transversal) → length s.basis ≡ length s.places
transversal_kept s = ap length s.based ∙ (length-transversal_basis s.entries ∙ s.same_count)
