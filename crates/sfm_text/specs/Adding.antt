-- What a line is as a term line alone, whatever stands around it: the first reason for which it is
-- none, or the term that it adds to an instance.
use Rattle.std.specs.Prelude.{◌≢◌, ℕ, ◌<◌, List, ◌∷◌}
use Rattle.sfm_kind.specs.Instance.{InstanceData}
use Rattle.sfm_lines.specs.declared.line_fault.LineEnd.{LineEnd}
use Rattle.sfm_lines.specs.declared.line_fault.LineEnd.TheVariants.{Fault, Memory}
use Rattle.sfm_lines.specs.declared.reason.Reason.{Reason}
use Rattle.sfm_lines.specs.declared.reason.Reason.TheVariants.{Word}
use Rattle.sfm_lines.specs.declared.stage.Stage.TheVariants.{Terms}
use Rattle.sfm_lines.specs.declared.word.TermWord.{TermWord}
use Rattle.sfm_lines.specs.Lines.{tokens_of}
use Rattle.sfm_lines.specs.Words.{word_text}
use Rattle.sfm_lines.specs.Reading.{HasReason, AddsTerm, reason_order}
use Rattle.sfm_lines.specs.ReadParts.{state_at}

-- the line has that reason as a term line behind the terms of the instance. As in a text, but that
-- the line `end` has a wrong word too
abbrev pub HasAsTerm : InstanceData → List ℕ → Reason → Type 0
HasAsTerm instance line Word = (word : TermWord) (rest : List (List ℕ))
    → tokens_of line ≢ word_text word ∷ rest
HasAsTerm instance line reason = HasReason (state_at Terms instance) line reason

-- the line has that reason as a term line, and none that comes before it
pub record IsNoTerm (instance : InstanceData) (line : List ℕ) (reason : Reason) : Type 0 where
  pub holds : HasAsTerm instance line reason
  pub first : (earlier : Reason) → reason_order earlier < reason_order reason
      → HasAsTerm instance line earlier → ⊥

-- a refusal names the first reason; out of memory says nothing
abbrev pub IsTermRefusal : InstanceData → List ℕ → LineEnd → Type 0
IsTermRefusal instance line (Fault reason) = IsNoTerm instance line reason
IsTermRefusal instance line Memory = Unit {0}

-- the line has no reason as a term line, and its term stands behind those of the old instance in
-- the new one
pub record IsTermAdded (old : InstanceData) (line : List ℕ) (new : InstanceData) : Type 0 where
  pub good : (reason : Reason) → HasAsTerm old line reason → ⊥
  pub adds : AddsTerm (state_at Terms old) (tokens_of line) (state_at Terms new)
