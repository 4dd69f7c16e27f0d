-- What is known of a file of a shelf, and of one that was read.
use Rattle.std.specs.Prelude.{◌≡◌, ◌⊎◌, ℕ, ◌+◌, ◌<◌, ◌≤◌, List, drop, length, true, Option, Some, None, IsSome, Result, Ok, Err, Vec}
use Rattle.std.specs.Global.{Global}
use Rattle.std.specs.Map.{lookup}
use Rattle.std.specs.Str.{bytes_eq}
use Rattle.sfm_io.specs.Faults.{Rose}
use Rattle.sfm_io.specs.Shelf.{ShelfState, Texts}
use Rattle.sfm_io.specs.Transfer.{IsRest, IsLong, IsFault}
use Rattle.sfm_due.specs.declared.status.Status.{Status}
use Rattle.sfm_due.specs.declared.status.Status.TheVariants.{ReadFault, Memory}

-- the shelf is sound, and tells texts of which one has the name
abbrev pub IsSurelyHeld : ShelfState → List ℕ → Type 0
IsSurelyHeld shelf name = (shelf.sound ≡ true) × (texts : Texts) × (shelf.texts ≡ Some texts) × IsSome (lookup (λ key. bytes_eq key name) texts)

-- the first text of that name, where the shelf tells its texts; of a shelf that tells none this says nothing
abbrev pub IsNamed : ShelfState → List ℕ → List ℕ → Type 0
IsNamed shelf name text = (texts : Texts) → shelf.texts ≡ Some texts → lookup (λ key. bytes_eq key name) texts ≡ Some text

-- all of a text was read, or one byte past the limit where it is longer, as far as the shelf tells its texts
abbrev pub WasRead : ShelfState → ShelfState → ℕ → List ℕ → Type 0
WasRead before after limit text = (texts : Texts) → before.texts ≡ Some texts → after.rest ≡ Some (drop (limit + 1) text)

-- a named file could not be read: a fault came, and the shelf is none that surely holds it
pub record MissesText (name : List ℕ) (shelf shelf' : ShelfState) : Type 0 where
  pub rose : Rose shelf.faults shelf'.faults
  pub unsure : IsSurelyHeld shelf name → ⊥

-- the bytes that were read are the text; where none are given it is longer than the limit
abbrev pub IsReadAs : ℕ → Option (Vec ℕ Global) → List ℕ → Type 0
IsReadAs limit (Some bytes) text = (bytes.items ≡ text) × (length text ≤ limit)
IsReadAs limit None text = limit < length text

-- the rest of the open text was read, or one byte past the limit, or it could not be
abbrev pub ReadsOpen : ℕ → (shelf shelf' : ShelfState) → Result (Option (Vec ℕ Global)) Status → Type 0
ReadsOpen limit shelf shelf' (Ok (Some bytes)) = (length bytes.items ≤ limit) × IsRest shelf bytes.items shelf'
ReadsOpen limit shelf shelf' (Ok None) = IsLong shelf limit shelf'
ReadsOpen limit shelf shelf' (Err status) = ((status ≡ ReadFault) × IsFault shelf shelf') ⊎ (status ≡ Memory)

-- a text was read, or it could not be
abbrev pub ReadsText : ℕ → List ℕ → (shelf shelf' : ShelfState) → Result (Option (Vec ℕ Global)) Status → Type 0
ReadsText limit name shelf shelf' (Ok bytes) = (text : List ℕ) × IsReadAs limit bytes text × IsNamed shelf name text × WasRead shelf shelf' limit text
ReadsText limit name shelf shelf' (Err status) = ((status ≡ ReadFault) × MissesText name shelf shelf') ⊎ (status ≡ Memory)
