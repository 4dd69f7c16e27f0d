-- What the parts of a text hold, once read, and where the reading of one ends that is none.
use Rattle.std.specs.Prelude.{◌≡◌, ℕ, ◌≤◌, Bool, List, ◌++◌, length, ℤ}
use Rattle.std.specs.List.{All}
use Rattle.sfm_spec.specs.Bounds.{IsEntry}
use Rattle.sfm_cert.specs.Answer.{Form, row_lines}
use Rattle.sfm_cert.specs.Form.{AreFormedRows}
use Rattle.sfm_cert.specs.Grammar.{IsBadLineOf, IsTextBy}
use Rattle.sfm_cert.specs.declared.solved.AnswerEnd.{AnswerEnd}
use Rattle.sfm_cert.specs.declared.solved.AnswerEnd.TheVariants.{BadLine, Memory}
use Rattle.sfm_readback.specs.Reading.{ReadsBy}
use Rattle.sfm_readback.specs.Slots.{FillsNext, Slot, row_slots}
use Rattle.sfm_readback.specs.declared.cursor.Cursor.{Cursor}
use Rattle.sfm_meet.specs.Met.{MetAnswer}
use Rattle.sfm_met.specs.MetText.{IsFormedMet, met_lines}
use Rattle.sfm_met.specs.MetSlots.{told_head, told_slots}

-- a line for each term of a sum, whatever is due behind them
pub record ReadsSide (word : List ℕ) (form : Form) (text : List ℕ) (from to : Cursor)
    (rows : List (List ℤ)) : Type 0 where
  pub within : to.at ≤ length text
  pub reads : (names : List (List ℕ)) (more : List Slot)
      → ReadsBy (FillsNext names) text from to (row_slots word form.lines 1 form.widths ++ more)
      more (row_lines word form.lines 1 rows)
  pub formed : AreFormedRows form.widths rows

-- the first four lines, whatever is due behind them
pub record ReadsTold (names : List (List ℕ)) (text : List ℕ) (from to : Cursor) (value : ℤ)
    (members : List Bool) (common : List ℤ) : Type 0 where
  pub within : to.at ≤ length text
  pub reads : (more : List Slot) → ReadsBy (FillsNext names) text from to (told_slots names more)
      more (told_head names value members common)
  pub small : IsEntry value
  pub places : length members ≡ length names
  pub count : length common ≡ length names
  pub entries : All IsEntry common

-- the text says this
abbrev pub IsMetText : Form → Form → List ℕ → MetAnswer → Type 0
IsMetText left right text a = IsTextBy (IsFormedMet left right) (met_lines left right) text a

-- a bad line is the first one; want of memory says nothing
abbrev pub IsBadMetEnd : Form → Form → List ℕ → AnswerEnd → Type 0
IsBadMetEnd left right text (BadLine line) =
    IsBadLineOf (IsFormedMet left right) (met_lines left right) text line
IsBadMetEnd left right text Memory = Unit {0}
