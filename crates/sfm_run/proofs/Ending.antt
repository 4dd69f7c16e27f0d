-- How a call ends, by what was prepared and by what was written of it.
use Rattle.std.proofs.Common.{◌≡◌, ◌⊎◌, inl, inr, Ok, Err, refl}
use Rattle.sfm_io.specs.Faults.{Rose}
use Rattle.sfm_io.specs.Shelf.{ShelfState}
use Rattle.sfm_io.specs.Sink.{SinkState}
use Rattle.sfm_io.specs.Transfer.{WritesAll}
use Rattle.sfm_due.specs.declared.due.Due.{Due}
use Rattle.sfm_due.specs.declared.status.Status.{Status}
use Rattle.sfm_due.specs.declared.status.Status.TheVariants.{Done, Invalid, Refused, ReadFault, WriteFault, Memory, Usage}
use Rattle.sfm_due.specs.Owing.{IsAnswer}
use Rattle.sfm_due.specs.Status.{code_of}
use Rattle.sfm_run.specs.Task.{HoldsNeeded, IsDue, Task, nothing_read}
use Rattle.sfm_run.specs.Headline.{EndsFor}
use Rattle.sfm_run.specs.Preparing.{Prepares, PreparesFrom}
use Rattle.sfm_run.proofs.Joining.{failure_rose, no_failure, stays}

-- nothing was prepared
pub ends_early : (task : Task) (shelf shelf' : ShelfState) (out : SinkState) (status : Status)
    → Prepares task shelf shelf' (Err status) → EndsFor task shelf shelf' out out status
ends_early task shelf shelf' out status h = at (h shelf nothing_read (stays shelf)) where
  at : PreparesFrom shelf shelf' nothing_read task (Err status)
      → EndsFor task shelf shelf' out out status
  at (inl (fault, fails)) = rw fault (fails, refl)
  at (inr (memory, stops)) = rw memory (stops, refl)

-- what was prepared was written whole
pub ends_written : {T E : Type 0} (task : Task) (shelf shelf' : ShelfState) (out out' : SinkState)
    (due : Due) (t : T) → Prepares task shelf shelf' (Ok due)
    → WritesAll {E = E} out due.text.items (Ok t) out'
    → EndsFor task shelf shelf' out out' due.status
ends_written task shelf shelf' out out' due t h written =
    at (h shelf nothing_read (stays shelf)) where
      at : IsDue task shelf shelf' due.text.items (code_of due.status) × IsAnswer due.status
          → EndsFor task shelf shelf' out out' due.status
      at (owed, inl done) = let d : IsDue task shelf shelf' due.text.items 0 = rw done at
          owed in rw done (due.text.items, d, written.whole)
      at (owed, inr (inl invalid)) = let d : IsDue task shelf shelf' due.text.items 1 = rw invalid
          at
          owed in rw invalid (due.text.items, d, written.whole)
      at (owed, inr (inr refused)) = let d : IsDue task shelf shelf' due.text.items 2 = rw refused
          at
          owed in rw refused (due.text.items, d, written.whole)

-- a front of it was written
pub ends_unwritten : {T E : Type 0} (task : Task) (shelf shelf' : ShelfState) (out out' : SinkState)
    (due : Due) (e : E) → Prepares task shelf shelf' (Ok due)
    → WritesAll {T = T} out due.text.items (Err e) out'
    → EndsFor task shelf shelf' out out' WriteFault
ends_unwritten task shelf shelf' out out' due e h written =
    let (count, less, gained) = written.front in (
      due.text.items,
      code_of due.status,
      (h shelf nothing_read (stays shelf)).0,
      record { count = count; gained = gained; whole = λ l. written.rose },
      less,
    )

-- where what is needed is surely there, or no fault of the shelf comes, and no fault of the sink
-- comes, a text is written, or memory ran out
pub completes : (task : Task) (shelf shelf' : ShelfState) (out out' : SinkState) (status : Status)
    → EndsFor task shelf shelf' out out' status
    → HoldsNeeded shelf task ⊎ (Rose shelf.faults shelf'.faults → ⊥)
    → (Rose out.faults out'.faults → ⊥) → (status ≡ Done) ⊎ (status ≡ Invalid)
    ⊎ (status ≡ Refused) ⊎ (status ≡ Memory)
completes task shelf shelf' out out' Done h sure sunk = inl refl
completes task shelf shelf' out out' Invalid h sure sunk = inr (inl refl)
completes task shelf shelf' out out' Refused h sure sunk = inr (inr (inl refl))
completes task shelf shelf' out out' ReadFault (fails, same) (inl held) sunk =
    absurd (no_failure task nothing_read shelf shelf' held fails)
completes task shelf shelf' out out' ReadFault (fails, same) (inr calm) sunk =
    absurd (calm (failure_rose task nothing_read shelf shelf' fails))
completes task shelf shelf' out out' WriteFault (written, code, owed, part, less) sure sunk =
    absurd (sunk (part.whole less))
completes task shelf shelf' out out' Memory h sure sunk = inr (inr (inr refl))
completes task shelf shelf' out out' Usage h sure sunk = absurd h
