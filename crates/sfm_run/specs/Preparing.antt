-- What was prepared: a text that is due whole, or why there is none; and a file that was opened.
use Rattle.std.specs.Prelude.{◌≡◌, ◌⊎◌, ℕ, List, [], ◌∷◌, ℤ, Result, Ok, Err, Vec}
use Rattle.std.specs.Global.{Global}
use Rattle.sfm_io.specs.Shelf.{ShelfState, KeepsShelf}
use Rattle.sfm_lines.specs.declared.reason.Reason.{Reason}
use Rattle.sfm_due.specs.declared.due.Due.{Due}
use Rattle.sfm_due.specs.declared.status.Status.{Status}
use Rattle.sfm_due.specs.declared.status.Status.TheVariants.{ReadFault, Memory, Refused}
use Rattle.sfm_due.specs.Status.{code_of}
use Rattle.sfm_due.specs.Files.{IsNamed, MissesText, WasRead}
use Rattle.sfm_due.specs.Owing.{IsAnswer, refusal}
use Rattle.sfm_pair.specs.declared.clash.Clash.{Clash}
use Rattle.sfm_pair.specs.Pair.{clash_line}
use Rattle.sfm_run.specs.declared.stop.Stop.{Stop}
use Rattle.sfm_run.specs.declared.stop.Stop.TheVariants.{Failed, Faulty}
use Rattle.sfm_run.specs.Task.{Along, FailsAt, File, IsAfter, IsDueAt, StopsAt, Task, Log}

-- what is due for a task behind what was read so far, or why nothing is
abbrev pub PreparesFrom : (shelf shelf' : ShelfState) → Log → Task → Result Due Status → Type 0
PreparesFrom shelf shelf' log task (Ok due) =
    Along (IsDueAt shelf shelf' due.text.items (code_of due.status)) shelf log task
    × IsAnswer due.status
PreparesFrom shelf shelf' log task (Err status) =
    ((status ≡ ReadFault) × Along (FailsAt shelf shelf') shelf log task)
    ⊎ ((status ≡ Memory) × Along (StopsAt shelf shelf') shelf log task)

-- the same, from one state of the shelf to another, whatever was read before
abbrev pub Prepares : Task → (mid after : ShelfState) → Result Due Status → Type 0
Prepares task mid after result = (shelf : ShelfState) (log : Log) → IsAfter log shelf mid
    → PreparesFrom shelf after log task result

-- what is due in the end: where a text has a fault, its refusal
abbrev pub settled : Result Due Stop → Result Due Status
settled (Ok due) = Ok due
settled (Err (Faulty due)) = Ok due
settled (Err (Failed status)) = Err status

-- the file was opened and read, and this holds of its text
pub record ReadsFile {X : Type 0} (file : File X) (shelf shelf' : ShelfState)
    (P : List ℕ → Type 0) : Type 0 where
  pub text : List ℕ
  pub named : IsNamed shelf file.name text
  pub kept : KeepsShelf (file.name ∷ []) shelf shelf'
  pub read : WasRead shelf shelf' file.limit text
  pub holds : P text

-- what a good text stands for, or what is due for one that is not good, or why the file was not
-- read
abbrev pub OpensFile : {V X : Type 0} → (V → X) → File X → (shelf shelf' : ShelfState)
    → Result V Stop → Type 0
OpensFile view file shelf shelf' (Ok v) =
    ReadsFile file shelf shelf' (λ text. file.Stands text (view v))
OpensFile view file shelf shelf' (Err (Faulty due)) =
    ReadsFile file shelf shelf' (λ text. file.Refuses text due.text.items) × (due.status ≡ Refused)
OpensFile view file shelf shelf' (Err (Failed status)) = KeepsShelf (file.name ∷ []) shelf shelf'
    × (((status ≡ ReadFault) × MissesText file.name shelf shelf') ⊎ (status ≡ Memory))

-- the refusal of a text, or that memory ran out
abbrev pub IsFaulty : List ℕ → ℕ → Reason → Stop → Type 0
IsFaulty word line reason (Faulty due) = (due.text.items ≡ refusal word line reason)
    × (due.status ≡ Refused)
IsFaulty word line reason (Failed status) = status ≡ Memory

-- the refusal of two texts that do not go together, or that memory ran out
abbrev pub IsClashing : Clash → ℕ → Stop → Type 0
IsClashing clash line (Faulty due) = (due.text.items ≡ clash_line clash line)
    × (due.status ≡ Refused)
IsClashing clash line (Failed status) = status ≡ Memory

-- what a text beside an instance stands for, or its refusal, or that memory ran out
abbrev pub Tells : {V X : Type 0} → (V → X) → File X → List ℕ → Result V Stop → Type 0
Tells view file text (Ok v) = file.Stands text (view v)
Tells view file text (Err (Faulty due)) = file.Refuses text due.text.items
    × (due.status ≡ Refused)
Tells view file text (Err (Failed status)) = status ≡ Memory

-- the sizes that a list has
abbrev pub items_of : Vec ℤ Global → List ℤ
items_of v = v.items
