-- the rows before are bases
use Rattle.std.proofs.Common.{ℕ, ◌<◌}
use Rattle.sfm_spec.specs.Families.{meanings}
use Rattle.sfm_spec.specs.Terms.{times, IsBase}
use Rattle.sfm_spec.specs.Walks.{term_at, base_at}
use Rattle.sfm_kind.specs.Kinds.{kind_places, kind_value}
use Rattle.sfm_check.proofs.bases.first_no_base_beside.Given as goal

abbrev pub invariant-loop-i : goal.invariant-loop-i
invariant-loop-i l = (j : ℕ) → j < l.i
    → IsBase (times l.section.den (term_at (meanings kind_places kind_value l.terms) j).value)
    (base_at l.section.bases.now j)
