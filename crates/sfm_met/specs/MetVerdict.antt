-- What is said of a text that is offered for two sums: that it is right, or its first fault. Each reason speaks of texts that none
-- of the ones before applies to.
use Rattle.std.specs.Prelude.{◌≡◌, ◌≢◌, ◌⊎◌, ℕ, ◌+◌, ◌<◌, Bool, List, ◌++◌, length, ℤ, pos}
use Rattle.sfm_spec.specs.Terms.{times, IsBase}
use Rattle.sfm_spec.specs.Families.{AreBases}
use Rattle.sfm_spec.specs.Walks.{term_at, base_at}
use Rattle.sfm_cert.specs.Solved.{form_of}
use Rattle.sfm_cert.specs.Grammar.{IsTextBy}
use Rattle.sfm_check.specs.declared.verdicts.Wrong.{Wrong}
use Rattle.sfm_check.specs.declared.verdicts.Wrong.TheVariants.{Base, Unproved, Answer}
use Rattle.sfm_check.specs.declared.verdicts.Verdict.{Verdict}
use Rattle.sfm_check.specs.declared.verdicts.Verdict.TheVariants.{Valid, Invalid}
use Rattle.sfm_check.specs.Verdict.{IsFaultBy}
use Rattle.sfm_meet.specs.Common.{IsLeastSplit}
use Rattle.sfm_meet.specs.Met.{MetAnswer, IsProvedMet}
use Rattle.sfm_met.specs.MetText.{IsFormedMet, met_lines}
use Rattle.sfm_check.specs.Truth.{Question}

-- the text says what is true of the sums, with bases that prove it
pub record IsRightMet (left right : Question) (text : List ℕ) : Type 0 where
  pub answer : MetAnswer
  pub is_text : IsTextBy (IsFormedMet (form_of left.instance) (form_of right.instance)) (met_lines (form_of left.instance) (form_of right.instance)) text answer
  pub proved : IsProvedMet left.meant right.meant (length left.instance.names) answer
  pub split : IsLeastSplit left.meant right.meant (length left.instance.names) answer.value answer.members

-- the row number i of all, those of the left before those of the right, is a base of its term
abbrev pub IsMetBaseAt : Question → Question → MetAnswer → ℕ → Type 0
IsMetBaseAt left right a i = IsBase (times (pos 1) (term_at (left.meant ++ right.meant) i).value) (base_at (a.left ++ a.right) i)

-- the line of the first row that is none
abbrev pub IsFirstNoMetBase : Question → Question → MetAnswer → ℕ → Type 0
IsFirstNoMetBase left right a line = (at : ℕ) × (at < length (left.meant ++ right.meant)) × (line ≡ at + 5)
    × (IsMetBaseAt left right a at → ⊥) × ((i : ℕ) → i < at → IsMetBaseAt left right a i)

-- line 2 does not tell the least value, or it does and line 3 does not tell the least set
abbrev pub IsFirstWrongMet : Question → Question → MetAnswer → ℕ → Type 0
IsFirstWrongMet left right a line = (value : ℤ) × (members : List Bool) × IsLeastSplit left.meant right.meant (length left.instance.names) value members
    × (((line ≡ 2) × (a.value ≢ value)) ⊎ ((line ≡ 3) × (a.value ≡ value) × (a.members ≢ members)))

-- the reason stands against what a text says, at that line, and none of those before it
abbrev pub IsAgainstMet : Question → Question → MetAnswer → ℕ → Wrong → Type 0
IsAgainstMet left right a line Base = IsFirstNoMetBase left right a line
IsAgainstMet left right a line Unproved = (line ≡ 4) × AreBases (pos 1) left.meant a.left × AreBases (pos 1) right.meant a.right
    × (IsProvedMet left.meant right.meant (length left.instance.names) a → ⊥)
IsAgainstMet left right a line Answer = IsProvedMet left.meant right.meant (length left.instance.names) a × IsFirstWrongMet left right a line
IsAgainstMet left right a line _ = ⊥

-- the verdict on a text: `valid` exactly where it is right, and else its first fault
abbrev pub IsMetVerdict : Question → Question → List ℕ → Verdict → Type 0
IsMetVerdict left right text Valid = IsRightMet left right text
IsMetVerdict left right text (Invalid line reason) = (IsRightMet left right text → ⊥)
    × IsFaultBy (IsFormedMet (form_of left.instance) (form_of right.instance)) (met_lines (form_of left.instance) (form_of right.instance)) (IsAgainstMet left right) text line reason
