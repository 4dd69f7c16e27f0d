-- What has been read of a term line whose elements may have weights, before it is known whether
-- there is too much with it.
use Rattle.std.specs.Prelude.{◌≡◌, ◌≢◌, ℕ, ◌<◌, List, ◌∷◌, Option, ℤ, Result, Ok, Err}
use Rattle.std.specs.List.{All}
use Rattle.sfm_kind.specs.Instance.{InstanceData}
use Rattle.sfm_kind.specs.declared.kind.Kind.{Kind}
use Rattle.sfm_lines.specs.declared.line_fault.LineEnd.{LineEnd}
use Rattle.sfm_lines.specs.declared.line_fault.LineEnd.TheVariants.{Fault, Memory}
use Rattle.sfm_lines.specs.declared.reason.Reason.{Reason}
use Rattle.sfm_lines.specs.declared.reason.Reason.TheVariants.{Shape}
use Rattle.sfm_lines.specs.declared.stage.Stage.TheVariants.{Terms}
use Rattle.sfm_lines.specs.declared.word.TermWord.TheVariants.{RankWord}
use Rattle.sfm_lines.specs.Words.{word_text}
use Rattle.sfm_lines.specs.Weights.{IsUnweighed, IsWeightText}
use Rattle.sfm_lines.specs.Reading.{HasReason, Says, IsLineRefusal, reason_order}
use Rattle.sfm_lines.specs.ReadParts.{state_at, IsLineOf, IsTermRead}

-- a line with these tokens says this term and these weights, and has no reason but perhaps that
-- there is too much
pub record IsTermSaid (instance : InstanceData) (tokens : List (List ℕ)) (term : Kind)
    (weights : Option (List ℤ)) : Type 0 where
  pub says : Says instance.version instance.names tokens term weights
  pub good : (line : List ℕ) (reason : Reason) → IsLineOf line tokens → reason_order reason < 8
      → HasReason (state_at Terms instance) line reason → ⊥

-- the term of a rank line of the second version, without its weights, and each of these is one
pub record IsRankRead (instance : InstanceData) (rest plain : List (List ℕ))
    (entries : List (List ℕ × Option (List ℕ))) (term : Kind) : Type 0 where
  pub unweighed : IsUnweighed rest plain entries
  pub read : IsTermRead instance RankWord plain term
  pub right : All (λ entry. (value : ℤ) × IsWeightText entry.1 value) entries

-- each line with these tokens is refused so
abbrev pub IsLineRefusedBy : InstanceData → List (List ℕ) → LineEnd → Type 0
IsLineRefusedBy instance tokens end = (line : List ℕ) → IsLineOf line tokens
    → IsLineRefusal (state_at Terms instance) line end

-- the reading of a line has come past its shape
abbrev pub IsPastShape : Result Kind LineEnd → Type 0
IsPastShape (Ok term) = Unit {0}
IsPastShape (Err (Fault reason)) = reason ≢ Shape
IsPastShape (Err Memory) = ⊥
