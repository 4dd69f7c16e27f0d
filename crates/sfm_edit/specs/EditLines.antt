-- What comes of a line of edits as it is read.
use Rattle.std.specs.Prelude.{◌⊎◌, ℕ, List, length}
use Rattle.sfm_kind.specs.Instance.{InstanceData}
use Rattle.sfm_lines.specs.declared.line_fault.LineEnd.{LineEnd}
use Rattle.sfm_lines.specs.declared.line_fault.LineEnd.TheVariants.{Fault, Memory}
use Rattle.sfm_lines.specs.declared.reason.Reason.{Reason}
use Rattle.sfm_text.specs.Language.{IsFirstOf}
use Rattle.sfm_edit.specs.declared.editing.Edited.{Edited}
use Rattle.sfm_edit.specs.Edits.{Editing, AddsLine, Drops, HasEdit}
use Rattle.sfm_edit.specs.Origins.{all_kept}

-- what has been edited so far
abbrev pub editing_of : Edited → Editing
editing_of e = record { instance = e.instance; kept = e.kept }

-- before the first edit
abbrev pub unedited : InstanceData → Editing
unedited instance = record { instance = instance; kept = all_kept (length instance.terms) }

-- what a good line leads to
abbrev pub Edits : Editing → List (List ℕ) → Editing → Type 0
Edits e tokens f = Drops e tokens f ⊎ AddsLine e tokens f

-- the line with these tokens has no reason, and leads from e to f
pub record IsEdited (e : Editing) (tokens : List (List ℕ)) (f : Editing) : Type 0 where
  pub good : (reason : Reason) → HasEdit e tokens reason → ⊥
  pub says : Edits e tokens f

-- a refusal names the first reason; out of memory says nothing
abbrev pub IsEditRefusal : Editing → List (List ℕ) → LineEnd → Type 0
IsEditRefusal e tokens (Fault reason) = IsFirstOf (HasEdit e tokens) reason
IsEditRefusal e tokens Memory = Unit {0}
