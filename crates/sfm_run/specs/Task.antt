-- What is to be done for a command: files are read one after the other, each for what its text stands for, and then a text is due.
-- One definition each of what is due, of the names that are needed and of those that are asked for serves every command.
use Rattle.std.specs.Prelude.{◌≡◌, ◌⊎◌, ℕ, List, [], ◌∷◌, ◌++◌, Option, Some, None, MatchOption}
use Rattle.sfm_io.specs.Faults.{Rose}
use Rattle.sfm_io.specs.Shelf.{ShelfState, KeepsShelf}
use Rattle.sfm_due.specs.Files.{IsNamed, IsSurelyHeld, WasRead}

-- a file that is read: its name, the most bytes of its text, what a good text stands for, and the text that is due for one that is
-- not good
pub record File (X : Type 0) : Type 1 where
  pub name : List ℕ
  pub limit : ℕ
  pub Stands : List ℕ → X → Type 0
  pub Refuses : List ℕ → List ℕ → Type 0

-- a text is due, with its code; or a file is read, and then is to be done what follows from what its text stands for
pub data Task : Type 1 where
  ends : (List ℕ → ℕ → Type 0) → Task
  reads : {X : Type 0} → File X → (X → Task) → Task

-- what was read so far: the names that were asked for, in order, and the last text, with the most bytes that are read of it
pub record Log : Type 0 where
  pub names : List (List ℕ)
  pub last : Option (ℕ × List ℕ)

-- nothing
abbrev pub nothing_read : Log
nothing_read = record { names = []; last = None }

-- one file more, of this text
abbrev pub and_file : {X : Type 0} → Log → File X → List ℕ → Log
and_file log file text = record { names = log.names ++ file.name ∷ []; last = Some (file.limit, text) }

-- the shelf once so much was read: no other name was asked for, and the last text was read to its end, or to one byte past the
-- limit; where nothing was read it is as it was
pub record IsAfter (log : Log) (shelf shelf' : ShelfState) : Type 0 where
  pub kept : KeepsShelf log.names shelf shelf'
  pub last : MatchOption log.last (shelf' ≡ shelf) (λ (limit, text). WasRead shelf shelf' limit text)

-- this holds somewhere along the task, of what was read until there and of what is then to be done: at its beginning, or behind a
-- text that is good
abbrev pub Along : (Log → Task → Type 0) → ShelfState → Log → Task → Type 0
Along P shelf log (ends Due) = P log (ends Due)
Along P shelf log (reads file rest) = P log (reads file rest)
    ⊎ ((text : List ℕ) × (x : _) × IsNamed shelf file.name text × file.Stands text x × Along P shelf (and_file log file text) (rest x))

-- the next file has that name
abbrev pub IsNext : List ℕ → Log → Task → Type 0
IsNext name log (ends Due) = ⊥
IsNext name log (reads file rest) = name ≡ file.name

-- the shelf surely holds each name that the task needs: the first, and each further one where all texts before it are good
abbrev pub HoldsNeeded : ShelfState → Task → Type 0
HoldsNeeded shelf task = (name : List ℕ) → Along (IsNext name) shelf nothing_read task → IsSurelyHeld shelf name

-- this text is now due, with this code: what the task ends with, or the refusal, with code 2, of the next file
abbrev pub IsDueAt : (shelf shelf' : ShelfState) → List ℕ → ℕ → Log → Task → Type 0
IsDueAt shelf shelf' written code log (ends Due) = Due written code × IsAfter log shelf shelf'
IsDueAt shelf shelf' written code log (reads file rest) = (text : List ℕ) × IsNamed shelf file.name text × file.Refuses text written
    × (code ≡ 2) × IsAfter (and_file log file text) shelf shelf'

-- this text is due for the task, with this code
abbrev pub IsDue : Task → (shelf shelf' : ShelfState) → List ℕ → ℕ → Type 0
IsDue task shelf shelf' written code = Along (IsDueAt shelf shelf' written code) shelf nothing_read task

-- the next file could not be opened or read to its end; it was the last that was asked for
abbrev pub FailsAt : (shelf shelf' : ShelfState) → Log → Task → Type 0
FailsAt shelf shelf' log (ends Due) = ⊥
FailsAt shelf shelf' log (reads file rest) = Rose shelf.faults shelf'.faults × (IsSurelyHeld shelf file.name → ⊥)
    × KeepsShelf (log.names ++ file.name ∷ []) shelf shelf'

-- memory ran out with nothing more asked for, or while the next file was read, which was the last that was asked for
abbrev pub StopsAt : (shelf shelf' : ShelfState) → Log → Task → Type 0
StopsAt shelf shelf' log (ends Due) = IsAfter log shelf shelf'
StopsAt shelf shelf' log (reads file rest) = IsAfter log shelf shelf' ⊎ KeepsShelf (log.names ++ file.name ∷ []) shelf shelf'
