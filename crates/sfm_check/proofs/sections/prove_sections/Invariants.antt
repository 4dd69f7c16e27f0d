use Rattle.std.proofs.Common.{◌≡◌, ℕ, ◌<◌, length, get_or}
use Rattle.sfm_extreme.specs.declared.extremes.Proved.{Proved}
use Rattle.sfm_check.specs.Findings.{IsToldOf}
use Rattle.sfm_check.specs.Offers.{of_section}
use Rattle.sfm_check.proofs.sections.prove_sections.Given as goal

-- each section before has told its minimum
abbrev pub invariant-loop-s : goal.invariant-loop-s
invariant-loop-s l = (length l.proved.items ≡ l.s)
    × ((s : ℕ) (d : Proved) → s < l.s → of_section IsToldOf l.offer s (get_or l.proved.items s d))
