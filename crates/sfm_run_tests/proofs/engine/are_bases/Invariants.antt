use Rattle.std.proofs.Common.{ℕ, ◌<◌, pos}
use Rattle.sfm_spec.specs.Families.{meanings}
use Rattle.sfm_spec.specs.Terms.{times, IsBase}
use Rattle.sfm_spec.specs.Walks.{term_at, base_at}
use Rattle.sfm_kind.specs.Kinds.{kind_places, kind_value}
use Rattle.sfm_run_tests.proofs.engine.are_bases.Given as goal

-- the rows before are bases
abbrev pub invariant-loop-i : goal.invariant-loop-i
invariant-loop-i l = (j : ℕ) → j < l.i
    → IsBase (times (pos 1) (term_at (meanings kind_places kind_value l.terms) j).value)
    (base_at l.rows j)
