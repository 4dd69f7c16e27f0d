-- The reasons of a term line without weights of elements, as the code that reads its parts tells
-- them.
use Rattle.std.specs.Prelude.{ℕ, ◌<◌, List, Any}
use Rattle.sfm_lines.specs.declared.reason.Reason.{Reason}
use Rattle.sfm_lines.specs.declared.reason.Reason.TheVariants.{Bytes}
use Rattle.sfm_lines.specs.declared.line_fault.LineEnd.{LineEnd}
use Rattle.sfm_lines.specs.declared.line_fault.LineEnd.TheVariants.{Fault, Memory}
use Rattle.sfm_lines.specs.Lines.{tokens_of}
use Rattle.sfm_lines.specs.Reading.{State, IsBadByte, HasPlain, reason_order}

-- the line has that reason in that state as a term line without weights
abbrev pub HasPlainly : State → List ℕ → Reason → Type 0
HasPlainly s line Bytes = Any IsBadByte line
HasPlainly s line reason = HasPlain s (tokens_of line) reason

-- and none of a lower number
pub record FirstPlain (s : State) (line : List ℕ) (reason : Reason) : Type 0 where
  pub holds : HasPlainly s line reason
  pub first : (earlier : Reason) → reason_order earlier < reason_order reason
      → HasPlainly s line earlier → ⊥

-- a refusal names the first such reason; want of memory says nothing
abbrev pub IsPlainRefusal : State → List ℕ → LineEnd → Type 0
IsPlainRefusal s line (Fault reason) = FirstPlain s line reason
IsPlainRefusal s line Memory = Unit {0}
