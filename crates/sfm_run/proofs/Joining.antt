-- A file is read behind others, and what is prepared behind it is prepared for the whole task.
use Rattle.std.proofs.Common.{◌≡◌, ℕ, List, [], ◌∷◌, Result, Ok, Err, IsErrAnd, refl, sym, subst, ◌∙◌, ap, inl, inr}
use Rattle.sfm_io.specs.Faults.{Rose}
use Rattle.sfm_io.specs.Shelf.{ShelfState, KeepsShelf}
use Rattle.sfm_io.proofs.ShelfLemmas.{KeepsShelf-refl, KeepsShelf-trans}
use Rattle.sfm_due.specs.declared.due.Due.{Due}
use Rattle.sfm_due.specs.declared.status.Status.{Status}
use Rattle.sfm_due.specs.declared.status.Status.TheVariants.{Memory}
use Rattle.sfm_due.specs.Status.{code_of}
use Rattle.sfm_due.specs.Files.{IsNamed, IsSurelyHeld, MissesText}
use Rattle.sfm_due.specs.Owing.{IsMade}
use Rattle.sfm_due.proofs.ReadLemmas.{rose_later}
use Rattle.sfm_run.specs.declared.stop.Stop.{Stop}
use Rattle.sfm_run.specs.declared.stop.Stop.TheVariants.{Failed, Faulty}
use Rattle.sfm_run.specs.Task.{Along, FailsAt, File, IsAfter, IsDueAt, IsNext, StopsAt, Task, Log, and_file, ends, nothing_read, reads}
use Rattle.sfm_run.specs.Preparing.{OpensFile, Prepares, PreparesFrom, ReadsFile, settled}

-- a shelf of which nothing was read
pub stays : (shelf : ShelfState) → IsAfter nothing_read shelf shelf
stays shelf = record { kept = KeepsShelf-refl shelf; last = refl }

-- memory ran out before anything was read
pub stops_at_once : (task : Task) (shelf : ShelfState)
    → Along (StopsAt shelf shelf) shelf nothing_read task
stops_at_once (ends Due) shelf = stays shelf
stops_at_once (reads file rest) shelf = inl (inl (stays shelf))

-- what a later shelf tells of a name is told of the first
named_before : {names : List (List ℕ)} (shelf mid : ShelfState) (name text : List ℕ)
    → KeepsShelf names shelf mid → IsNamed mid name text → IsNamed shelf name text
named_before shelf mid name text kept named texts are = named texts (kept.texts ∙ are)

held_later : {names : List (List ℕ)} (shelf mid : ShelfState) (name : List ℕ)
    → KeepsShelf names shelf mid → IsSurelyHeld shelf name → IsSurelyHeld mid name
held_later shelf mid name kept (sound, texts, are, held) =
    (kept.sound sound, texts, kept.texts ∙ are, held)

missed_before : {names : List (List ℕ)} (shelf mid after : ShelfState) (name : List ℕ)
    → KeepsShelf names shelf mid → MissesText name mid after → MissesText name shelf after
missed_before shelf mid after name kept miss = record {
  rose = rose_later shelf.faults mid.faults after.faults kept.faults miss.rose;
  unsure = λ held. miss.unsure (held_later shelf mid name kept held);
}

module _ {X : Type 0} (file : File X) (shelf mid after : ShelfState) (log : Log)
    (before : IsAfter log shelf mid) where
  -- one file more was read
  one_more : {P : List ℕ → Type 0} (r : ReadsFile file mid after P)
      → IsAfter (and_file log file r.text) shelf after
  one_more r = record {
    kept = KeepsShelf-trans log.names (file.name ∷ []) before.kept r.kept;
    last = λ texts are. r.read texts (before.kept.texts ∙ are);
  }

  named : {P : List ℕ → Type 0} (r : ReadsFile file mid after P) → IsNamed shelf file.name r.text
  named r = named_before shelf mid file.name r.text before.kept r.named

-- the file was not read
misses : {V X : Type 0} (view : V → X) (file : File X) (rest : X → Task)
    (mid after : ShelfState) (status : Status)
    → OpensFile view file mid after (Err (Failed status))
    → Prepares (reads file rest) mid after (Err status)
misses view file rest mid after status (kept, inl (fault, miss)) shelf log before =
    let m = missed_before shelf mid after file.name before.kept miss in
    inl (
      fault,
      inl (
        m.rose,
        m.unsure,
        KeepsShelf-trans log.names (file.name ∷ []) before.kept kept,
      ),
    )
misses view file rest mid after status (kept, inr memory) shelf log before =
    inr (memory, inl (inr (KeepsShelf-trans log.names (file.name ∷ []) before.kept kept)))

-- its text is not good
refuses : {V X : Type 0} (view : V → X) (file : File X) (rest : X → Task)
    (mid after : ShelfState) (due : Due)
    → OpensFile view file mid after (Err (Faulty due))
    → Prepares (reads file rest) mid after (Ok due)
refuses view file rest mid after due (r, refused) shelf log before = (
  inl (
    r.text,
    named file shelf mid after log before r,
    r.holds,
    ap code_of refused,
    one_more file shelf mid after log before r,
  ),
  inr (inr refused),
)

-- so it stops a command, and that is passed on
pub stops : {V X : Type 0} (view : V → X) (file : File X) (rest : X → Task)
    (mid after : ShelfState) (result : Result Due Stop) (stop : Stop)
    → OpensFile view file mid after (Err stop) → IsErrAnd result (λ s. s ≡ stop)
    → Prepares (reads file rest) mid after (settled result)
stops view file rest mid after (Ok due) stop h is = absurd is
stops view file rest mid after (Err s) stop h is =
    subst (λ (s : Stop). Prepares (reads file rest) mid after (settled (Err s))) (sym is)
    (at stop h) where
      at : (stop : Stop) → OpensFile view file mid after (Err stop)
          → Prepares (reads file rest) mid after (settled (Err stop))
      at (Faulty due) h = refuses view file rest mid after due h
      at (Failed status) h = misses view file rest mid after status h

-- its text is good, and what is prepared behind it
pub behind : {X : Type 0} (file : File X) (rest : X → Task) (x : X) (mid after last : ShelfState)
    (result : Result Due Status)
    → ReadsFile file mid after (λ text. file.Stands text x) → Prepares (rest x) after last result
    → Prepares (reads file rest) mid last result
behind file rest x mid after last result r then shelf log before =
    at result (then shelf (and_file log file r.text)
    (one_more file shelf mid after log before r)) where
      goes : (P : Log → Task → Type 0) → Along P shelf (and_file log file r.text) (rest x)
          → Along P shelf log (reads file rest)
      goes P h = inr (r.text, x, named file shelf mid after log before r, r.holds, h)

      at : (result : Result Due Status)
          → PreparesFrom shelf last (and_file log file r.text) (rest x)
          result → PreparesFrom shelf last log (reads file rest) result
      at (Ok due) (h, answered) = (
        goes (IsDueAt shelf last due.text.items (code_of due.status)) h,
        answered,
      )
      at (Err status) (inl (fault, h)) = inl (fault, goes (FailsAt shelf last) h)
      at (Err status) (inr (memory, h)) = inr (memory, goes (StopsAt shelf last) h)

pub goes_on : {V X : Type 0} (view : V → X) (file : File X) (rest : X → Task) (v : V)
    (mid after last : ShelfState) (result : Result Due Status)
    → OpensFile view file mid after (Ok v) → Prepares (rest (view v)) after last result
    → Prepares (reads file rest) mid last result
goes_on view file rest v mid after last result r then =
    behind file rest (view v) mid after last result r then

-- a text was made without the shelf
pub made : (IsDue : List ℕ → ℕ → Type 0) (due : Due) (mid : ShelfState) → IsMade IsDue due
    → Prepares (ends IsDue) mid mid (Ok due)
made IsDue due mid h shelf log before = ((h.owed, before), h.answered)

-- or memory ran out
pub not_made : (IsDue : List ℕ → ℕ → Type 0) (mid : ShelfState) (result : Result Due Stop)
    → IsErrAnd result (λ s. s ≡ Failed Memory) → Prepares (ends IsDue) mid mid (settled result)
not_made IsDue mid (Ok due) is = absurd is
not_made IsDue mid (Err stop) is =
    subst (λ (s : Stop). Prepares (ends IsDue) mid mid (settled (Err s))) (sym is)
    (λ shelf log before. inr (refl, before))

-- a shelf that surely holds what is needed fails nowhere
pub no_failure : (task : Task) (log : Log) (shelf shelf' : ShelfState)
    → ((name : List ℕ) → Along (IsNext name) shelf log task → IsSurelyHeld shelf name)
    → Along (FailsAt shelf shelf') shelf log task → ⊥
no_failure (ends Due) log shelf shelf' held fails = fails
no_failure (reads file rest) log shelf shelf' held (inl (rose, unsure, kept)) =
    unsure (held file.name (inl refl))
no_failure (reads file rest) log shelf shelf' held (inr (text, x, is, stands, fails)) =
    no_failure (rest x) (and_file log file text) shelf shelf'
    (λ name needs. held name (inr (text, x, is, stands, needs))) fails

-- where a file was missed a fault rose
pub failure_rose : (task : Task) (log : Log) (shelf shelf' : ShelfState)
    → Along (FailsAt shelf shelf') shelf log task → Rose shelf.faults shelf'.faults
failure_rose (ends Due) log shelf shelf' fails = absurd fails
failure_rose (reads file rest) log shelf shelf' (inl (rose, unsure, kept)) = rose
failure_rose (reads file rest) log shelf shelf' (inr (text, x, is, stands, fails)) =
    failure_rose (rest x) (and_file log file text) shelf shelf' fails
