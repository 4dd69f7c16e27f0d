-- What is known of a reader that was fed with the text of a file.
use Rattle.std.specs.Prelude.{◌≡◌, ◌⊎◌, ℕ, ◌<◌, ◌≤◌, List, [], ◌++◌, length, Result, Ok, Err, IfOk, IfErr}
use Rattle.std.specs.Io.KnownBytes.{Consumes, IsAtEnd}
use Rattle.sfm_io.specs.Shelf.{ShelfState, KeepsShelf}
use Rattle.sfm_io.specs.Transfer.{IsRest, IsLong, IsFault}
use Rattle.sfm_text.specs.declared.reader.Reader.{Reader}
use Rattle.sfm_text.specs.GoodText.{text_limit}
use Rattle.sfm_text.specs.Standing.{Stands}
use Rattle.sfm_due.specs.declared.status.Status.{Status}
use Rattle.sfm_due.specs.declared.status.Status.TheVariants.{ReadFault, Memory}
use Rattle.sfm_due.specs.Files.{IsNamed, WasRead, MissesText}

-- these bytes came from the shelf, and the reader went on by them
pub record Feeds (before after : ShelfState) (old new : Reader) (count : ℕ) : Type 0 where
  pub bytes : List ℕ
  pub count_is : length bytes ≡ count
  pub taken : Consumes before.rest after.rest bytes
  pub stands : (text : List ℕ) → Stands old text → Stands new (text ++ bytes)

-- the shelf failed, or memory ran out
abbrev pub IsStopped : (before after : ShelfState) → Status → Type 0
IsStopped before after status = ((status ≡ ReadFault) × IsFault before after) ⊎ (status ≡ Memory)

-- one read of at most so many bytes, with which a reader was fed
pub record FeedsOn (before : ShelfState) (old : Reader) (most : ℕ) (result : Result ℕ Status)
    (new : Reader) (after : ShelfState) : Type 0 where
  pub kept : KeepsShelf [] before after
  pub small : IfOk result (λ count. count ≤ most)
  pub fed : IfOk result (λ count. Feeds before after old new count)
  pub ends : IfOk result (λ count. count ≡ 0 → IsAtEnd before.rest)
  pub stop : IfErr result (λ status. IsStopped before after status)

-- the bytes are the rest of the open text, or its front up to one byte past the limit
abbrev pub AreRest : (before after : ShelfState) → List ℕ → Type 0
AreRest before after bytes = ((length bytes ≤ text_limit) × IsRest before bytes after)
    ⊎ ((text_limit < length bytes) × IsLong before text_limit after)

-- a reader was fed with the rest of the open text, or with its front up to one byte past the limit,
-- or that could not be
abbrev pub FeedsOpen : (before after : ShelfState) → Result Reader Status → Type 0
FeedsOpen before after (Ok reader) = (bytes : List ℕ) × Stands reader bytes
    × AreRest before after bytes
FeedsOpen before after (Err status) = IsStopped before after status

-- a reader stands for the text of that name, or that could not be read
abbrev pub FeedsText : List ℕ → (before after : ShelfState) → Result Reader Status → Type 0
FeedsText name before after (Ok reader) = (text : List ℕ) × Stands reader text
    × IsNamed before name text × WasRead before after text_limit text
FeedsText name before after (Err status) = ((status ≡ ReadFault) × MissesText name before after)
    ⊎ (status ≡ Memory)
