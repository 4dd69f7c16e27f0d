-- What is known of a text that was made, and of what went out.
use Rattle.std.specs.Prelude.{◌≡◌, ℕ, List, [], Result, Ok, Err}
use Rattle.sfm_base.specs.declared.memory.Memory.{Memory}
use Rattle.sfm_lines.specs.declared.reason.Reason.{Reason}
use Rattle.sfm_text.specs.declared.end.TextEnd.{TextEnd}
use Rattle.sfm_text.specs.declared.end.TextEnd.TheVariants as ends
use Rattle.sfm_due.specs.declared.due.Due.{Due}
use Rattle.sfm_due.specs.declared.status.Status.TheVariants.{Refused}
use Rattle.sfm_due.specs.Owing.{refusal}
use Rattle.sfm_due.specs.Status.{code_of}

-- the line that refuses a text for its end, with its status
pub record IsRefusalDue (word : List ℕ) (end : TextEnd) (due : Due) : Type 0 where
  pub line : ℕ
  pub reason : Reason
  pub is : end ≡ ends.Refused line reason
  pub named : due.text.items ≡ refusal word line reason
  pub refused : due.status ≡ Refused

-- what was made goes out with its code, or no byte with code 5
abbrev pub GoesOut : Result Due Memory → List ℕ → ℕ → Type 0
GoesOut (Ok due) written code = (written ≡ due.text.items) × (code ≡ code_of due.status)
GoesOut (Err memory) written code = (written ≡ []) × (code ≡ 5)
