-- What is due for the most level base of an instance, of which the sizes add to at most 10^13.
use Rattle.std.specs.Prelude.{◌≡◌, ◌⊎◌, ℕ, ◌+◌, ◌^◌, List, take, ℤ, pos, ◌<ℤ◌}
use Rattle.sfm_kind.specs.Meanings.{total_by}
use Rattle.sfm_lines.specs.declared.reason.Reason.{Reason}
use Rattle.sfm_lines.specs.declared.reason.Reason.TheVariants.{Total}
use Rattle.sfm_text.specs.Language.{IsFaultIn}
use Rattle.sfm_text.specs.GoodText.{instance_language}
use Rattle.sfm_due.specs.Lined.{IsFirstLine, IsLined, Lined}

-- the most that the sizes of the terms may add to
abbrev pub level_limit : ℤ
level_limit = pos (10 ^ 13)

-- the first fault of a text, or, where it has none, the first line with which the sizes of the terms add to more than that
abbrev pub IsLevelFault : List ℕ → ℕ → Reason → Type 0
IsLevelFault text line reason = IsFaultIn instance_language text line reason ⊎ (((side : Lined) × IsLined text side
    × IsFirstLine (λ i. level_limit <ℤ total_by (take (i + 1) side.asked.instance.terms) side.asked.meant) side.lines line) × (reason ≡ Total))
