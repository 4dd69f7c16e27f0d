-- What the solver finds of an instance.
use Rattle.std.specs.Prelude.{◌≡◌, ℕ, List, ◌++◌, length, map, codes, decimal, ℤ, pos}
use Rattle.std.specs.List.{All}
use Rattle.sfm_spec.specs.Bounds.{IsEntry}
use Rattle.sfm_spec.specs.Sets.{size}
use Rattle.sfm_spec.specs.Families.{AreBases, IsLeast, IsGreatest, Prove, even_shift, shifted_at}
use Rattle.sfm_spec.specs.Walks.{IsFewWalks}
use Rattle.sfm_kind.specs.Instance.{InstanceData}
use Rattle.sfm_kind.specs.Kinds.{kind_start}
use Rattle.sfm_due.specs.Due.{IsReached}
use Rattle.sfm_extreme.specs.declared.extremes.Proved.{Proved}
use Rattle.sfm_cert.specs.Answer.{Answer}
use Rattle.sfm_cert.specs.Few.{HasFewLines}
use Rattle.sfm_cert.specs.Form.{IsFormed}
use Rattle.sfm_cert.specs.Solved.{form_of}
use Rattle.sfm_check.specs.Truth.{IsProvedSection, IsTrueHead, sections_of}
use Rattle.sfm_due.specs.Meanings.{meanings_of}

-- an answer of the instance's form that is true where each element has its size, with bases that
-- prove it and that few walks lead to; it has few lines
pub record IsTrueAnswer (instance : InstanceData) (sizes : List ℤ) (a : Answer) : Type 0 where
  pub formed : IsFormed (form_of instance) a
  pub few : HasFewLines a
  pub head : IsTrueHead (meanings_of instance.terms) (length instance.names) sizes a
  pub sections : All (IsProvedSection (meanings_of instance.terms) (length instance.names) sizes)
      (sections_of a)
  pub reached : All (IsReached instance.terms (meanings_of instance.terms) (length instance.names)
      sizes) (sections_of a)

-- bases that prove the minimum and that few walks lead to, and what they tell
pub record Gives (instance : InstanceData) (rows : List (List ℤ)) (found : Proved) : Type 0 where
  pub bases : AreBases (pos 1) (meanings_of instance.terms) rows
  pub small : All (λ x. All IsEntry x) rows
  pub proves : Prove (meanings_of instance.terms) (length instance.names) (pos 1)
      (even_shift (length instance.names) (pos 0)) rows
  pub reached : IsFewWalks (meanings_of instance.terms) (length instance.names) (pos 1)
      (even_shift (length instance.names) (pos 0))
      (map (λ kind. kind_start kind (pos 1)) instance.terms) rows
  pub least : IsLeast (meanings_of instance.terms) (length instance.names) (pos 1)
      (even_shift (length instance.names) (pos 0)) found.least
  pub greatest : IsGreatest (meanings_of instance.terms) (length instance.names) (pos 1)
      (even_shift (length instance.names) (pos 0)) found.greatest
  pub value : found.value ≡ shifted_at (meanings_of instance.terms) (pos 1)
      (even_shift (length instance.names) (pos 0)) found.least

-- the end of the line of a demonstration: the counts that an answer tells
abbrev pub counts_told : Answer → List ℕ
counts_told a = codes " least " ++ decimal (size a.least) ++ codes " greatest " ++ decimal
    (size a.greatest) ++ codes " blocks " ++ decimal (length a.blocks) ++ codes
    " slopes " ++ decimal (length a.breaks) ++ codes " valid\n"
