-- What a shelf of named texts is, and what its calls do.
use Rattle.std.specs.Prelude.{◌≡◌, ℕ, ◌<◌, ◌≤◌, List, [], ◌∷◌, ◌++◌, length, take, Option, Some, None, Bool, true, false, Result, IsSome, IsOk, IfOk, OnOk, OnErr}
use Rattle.std.specs.Map.{lookup}
use Rattle.std.specs.Str.{bytes_eq}
use Rattle.std.specs.Io.KnownBytes.{Consumes, IsAtEnd}
use Rattle.sfm_io.specs.Faults.{Rose}

-- names, each with the bytes of its text
abbrev pub Texts : Type 0
Texts = List (List ℕ × List ℕ)

-- the text of the first entry of that name
abbrev pub text_named : Texts → List ℕ → Option (List ℕ)
text_named texts name = lookup (λ key. bytes_eq key name) texts

-- What a shelf tells: its texts; the unread bytes of the open one, none where nothing is open; the count of faults; whether no call
-- can fail any more; and the names that `open` was asked for, in order.
pub record ShelfState : Type 0 where
  pub texts : Option Texts
  pub rest : Option (List ℕ)
  pub faults : ℕ
  pub sound : Bool
  pub asked : List (List ℕ)

-- what calls of a shelf keep, by which these names were asked for and no others
pub record KeepsShelf (names : List (List ℕ)) (before after : ShelfState) : Type 0 where
  pub texts : after.texts ≡ before.texts
  pub faults : before.faults ≤ after.faults
  pub sound : before.sound ≡ true → after.sound ≡ true
  pub asked : after.asked ≡ before.asked ++ names

-- `open(name)` on a shelf
pub record Opens {T E : Type 0} (before : ShelfState) (name : List ℕ) (result : Result T E) (after : ShelfState) : Type 0 where
  pub kept : KeepsShelf (name ∷ []) before after
  -- a text that is told is open at its first byte
  pub opened : OnOk result ((texts : Texts) → before.texts ≡ Some texts → (text : List ℕ) × (text_named texts name ≡ Some text) × (after.rest ≡ Some text))
  -- nothing is open after a failed call
  pub closed : OnErr result ((texts : Texts) → before.texts ≡ Some texts → after.rest ≡ Some [])
  pub rose : OnErr result (Rose before.faults after.faults)
  -- a sound shelf opens each name that it holds
  pub held : before.sound ≡ true → (texts : Texts) → before.texts ≡ Some texts → IsSome (text_named texts name) → IsOk result

-- `read(buf)` on a shelf, where `new` is the buffer afterwards
pub record Reads {E : Type 0} (before : ShelfState) (result : Result ℕ E) (new : List ℕ) (after : ShelfState) : Type 0 where
  pub kept : KeepsShelf [] before after
  pub count : IfOk result (λ k. k ≤ length new)
  -- the bytes were the front of what was unread, which loses them
  pub taken : IfOk result (λ k. Consumes before.rest after.rest (take k new))
  -- no byte comes into a buffer that is not empty only where nothing is left
  pub ends : IfOk result (λ k. k ≡ 0 → 0 < length new → IsAtEnd before.rest)
  -- a failed call takes nothing
  pub untouched : OnErr result (after.rest ≡ before.rest)
  pub rose : OnErr result (Rose before.faults after.faults)
  pub sure : before.sound ≡ true → IsOk result

-- a shelf that tells nothing of its texts
abbrev pub untold_state : ℕ × List (List ℕ) → ShelfState
untold_state (faults, asked) = record { texts = None; rest = None; faults = faults; sound = false; asked = asked }
