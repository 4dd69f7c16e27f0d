-- What one call of the program does: which answer it gives, why, and what it leaves of its shelf and its two sinks.
use Rattle.std.specs.Prelude.{◌≡◌, ◌⊎◌, ℕ, ◌<◌, List, length, take, codes}
use Rattle.std.specs.Io.KnownBytes.{append_known}
use Rattle.sfm_io.specs.Faults.{Rose}
use Rattle.sfm_io.specs.Shelf.{ShelfState}
use Rattle.sfm_io.specs.Sink.{SinkState}
use Rattle.sfm_due.specs.declared.status.Status.{Status}
use Rattle.sfm_due.specs.declared.status.Status.TheVariants.{Done, Invalid, Refused, ReadFault, WriteFault, Memory, Usage}
use Rattle.sfm_words.specs.Subcommand.{Command}
use Rattle.sfm_words.specs.Command.{Asks, IsForm, IsNotTaken}
use Rattle.sfm_run.specs.Task.{Task, Along, FailsAt, HoldsNeeded, IsDue, StopsAt, nothing_read}
use Rattle.sfm_run.specs.Tasks.{task_of}

-- what was due was written whole
abbrev pub WritesDue : Task → (shelf shelf' : ShelfState) → (out out' : SinkState) → ℕ → Type 0
WritesDue task shelf shelf' out out' code = (written : List ℕ) × IsDue task shelf shelf' written code × (out'.written ≡ append_known out.written written)

-- a text was written, or a front of it with a fault of the sink
pub record Prints (text : List ℕ) (sink sink' : SinkState) : Type 0 where
  pub count : ℕ
  pub gained : sink'.written ≡ append_known sink.written (take count text)
  pub whole : count < length text → Rose sink.faults sink'.faults

-- how a task ends: each status with its cause, and with which names were asked for, in order and no others. A file could not be read
-- where a fault of the shelf came, which is not a sound one that holds what is needed; what is due could not be written where only a
-- front of it was
abbrev pub EndsFor : Task → (shelf shelf' : ShelfState) → (out out' : SinkState) → Status → Type 0
EndsFor task shelf shelf' out out' Done = WritesDue task shelf shelf' out out' 0
EndsFor task shelf shelf' out out' Invalid = WritesDue task shelf shelf' out out' 1
EndsFor task shelf shelf' out out' Refused = WritesDue task shelf shelf' out out' 2
EndsFor task shelf shelf' out out' ReadFault = Along (FailsAt shelf shelf') shelf nothing_read task × (out' ≡ out)
EndsFor task shelf shelf' out out' WriteFault = (written : List ℕ) × (code : ℕ) × IsDue task shelf shelf' written code
    × (part : Prints written out out') × (part.count < length written)
EndsFor task shelf shelf' out out' Memory = Along (StopsAt shelf shelf') shelf nothing_read task × (out' ≡ out)
EndsFor task shelf shelf' out out' Usage = ⊥

-- the words were not read: clap does not take them, or memory ran out
abbrev pub IsUnread : List (List ℕ) → Status → Type 0
IsUnread words status = ((status ≡ Usage) × IsNotTaken words) ⊎ (status ≡ Memory)

-- how a call with these words ends: nothing was touched where they were not read
abbrev pub EndsBy : List (List ℕ) → (shelf shelf' : ShelfState) → (out out' : SinkState) → Status → Type 0
EndsBy words shelf shelf' out out' status =
    (IsUnread words status × (shelf' ≡ shelf) × (out' ≡ out)) ⊎ ((command : Command) × Asks words command × EndsFor (task_of command) shelf shelf' out out' status)

-- words of the plain form of a command ask for that command, and the call ends as its task does
abbrev pub EndsByForm : List (List ℕ) → (shelf shelf' : ShelfState) → (out out' : SinkState) → Status → Type 0
EndsByForm words shelf shelf' out out' status =
    (command : Command) → IsForm words command → Asks words command × EndsFor (task_of command) shelf shelf' out out' status

-- what is said of each status on the second sink: a fixed line of each failure, and nothing of the others
abbrev pub Complains : (err err' : SinkState) → Status → Type 0
Complains err err' ReadFault = Prints (codes "sfm: read failed\n") err err'
Complains err err' WriteFault = Prints (codes "sfm: write failed\n") err err'
Complains err err' Memory = Prints (codes "sfm: out of memory\n") err err'
Complains err err' Usage = Prints (codes "usage: sfm solve FILE | check FILE ANSWER | demo SEED | weigh FILE SIZES | weighed FILE SIZES ANSWER | ask FILE PINS | level FILE | edit FILE EDITS | meet LEFT RIGHT | met LEFT RIGHT ANSWER\n") err err'
Complains err err' _ = err' ≡ err

-- where the words are a command whose names are surely there, or no fault of the shelf comes, and no fault of the sink comes, the status
-- is one with which what is due is written, or memory ran out
abbrev pub IsComplete : List (List ℕ) → (shelf shelf' : ShelfState) → (out out' : SinkState) → Status → Type 0
IsComplete words shelf shelf' out out' status = (command : Command) → Asks words command
    → HoldsNeeded shelf (task_of command) ⊎ (Rose shelf.faults shelf'.faults → ⊥) → (Rose out.faults out'.faults → ⊥)
    → (status ≡ Done) ⊎ (status ≡ Invalid) ⊎ (status ≡ Refused) ⊎ (status ≡ Memory)
