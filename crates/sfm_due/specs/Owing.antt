-- What a call gives that opens nothing: a text that is due, with the status that goes with it, or
-- that memory ran out; and what is due, as the calls name it.
use Rattle.std.specs.Prelude.{◌≡◌, ◌⊎◌, ℕ, ◌+◌, List, length, take, codes, ℤ, ◌≤ℤ◌, ◌<ℤ◌}
use Rattle.sfm_kind.specs.Meanings.{total_by}
use Rattle.sfm_lines.specs.declared.reason.Reason.{Reason}
use Rattle.sfm_lines.specs.Reasons.{reason_word}
use Rattle.sfm_level.specs.LevelText.{IsLevelText}
use Rattle.sfm_due.specs.declared.due.Due.{Due}
use Rattle.sfm_due.specs.declared.status.Status.{Status}
use Rattle.sfm_due.specs.declared.status.Status.TheVariants.{Done, Invalid, Refused}
use Rattle.sfm_due.specs.Due.{IsJudgedBy, IsSolvedBy, Question, fault_line}
use Rattle.sfm_due.specs.Level.{level_limit}
use Rattle.sfm_due.specs.Lined.{IsFirstLine, IsLined, Lined}
use Rattle.sfm_due.specs.Status.{code_of}

-- a status with which a text goes
abbrev pub IsAnswer : Status → Type 0
IsAnswer status = (status ≡ Done) ⊎ (status ≡ Invalid) ⊎ (status ≡ Refused)

-- the text is due with its code
pub record IsMade (IsDue : List ℕ → ℕ → Type 0) (due : Due) : Type 0 where
  pub owed : IsDue due.text.items (code_of due.status)
  pub answered : IsAnswer due.status

-- the line that refuses a text, behind a word for which text it is, or `refused`
abbrev pub refusal : List ℕ → ℕ → Reason → List ℕ
refusal word line reason = fault_line word line (reason_word reason)

-- the file is a right one, reached by few walks, where each element has its size
abbrev pub IsWeighed : Question → List ℤ → List ℕ → Type 0
IsWeighed asked sizes file = IsSolvedBy (codes "weighed 1") sizes asked file

-- the written text, with this code, is the verdict on the answer where each element has its size
abbrev pub IsJudgedBySizes : Question → List ℤ → List ℕ → List ℕ → ℕ → Type 0
IsJudgedBySizes asked sizes answer written code =
    IsJudgedBy (codes "weighed 1") sizes asked answer written code

-- the written text is that of a most level base, with bases of the terms that add up to it
abbrev pub IsLevelled : Question → List ℕ → Type 0
IsLevelled asked written = IsLevelText asked.instance.lines asked.meant
    (length asked.instance.names) written

-- what is asked is of sizes for which its most level base is found
abbrev pub IsSmallEnough : Question → Type 0
IsSmallEnough asked = total_by asked.instance.terms asked.meant ≤ℤ level_limit

-- the first line of a text with which the sizes of the terms add to more
abbrev pub IsTooLarge : List ℕ → ℕ → Type 0
IsTooLarge text line = (side : Lined) × IsLined text side
    × IsFirstLine (λ i. level_limit <ℤ total_by (take (i + 1) side.asked.instance.terms)
    side.asked.meant) side.lines line
