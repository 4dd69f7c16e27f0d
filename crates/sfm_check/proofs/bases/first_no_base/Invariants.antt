use Rattle.std.proofs.Common.{ℕ, ◌<◌, length}
use Rattle.sfm_spec.specs.Families.{meanings}
use Rattle.sfm_kind.specs.Kinds.{kind_places, kind_value}
use Rattle.sfm_cert.specs.Solved.{answer_of}
use Rattle.sfm_check.specs.Verdict.{IsBaseAt}
use Rattle.sfm_check.proofs.bases.first_no_base.Given as goal

-- the rows of the sections before are bases
abbrev pub invariant-loop-s : goal.invariant-loop-s
invariant-loop-s l = (s i : ℕ) → s < l.s
    → i < length (meanings kind_places kind_value l.instance.terms)
    → IsBaseAt (meanings kind_places kind_value l.instance.terms) (answer_of l.solved) s i
