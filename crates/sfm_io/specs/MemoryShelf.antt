-- The unread bytes of a shelf over memory, from the place that it keeps.
use Rattle.std.specs.Prelude.{ℕ, ◌<◌, ◌≤◌, List, [], length, drop, Option, Some, None}
use Rattle.std.specs.Option.{ForSome}
use Rattle.sfm_io.specs.Shelf.{Texts}
use Rattle.sfm_io.specs.HeldShelf.{text_at}
use Rattle.sfm_io.specs.declared.memory_shelf.Place.{Place}

-- what is left of the open text, nothing where none is open
abbrev pub unread : Texts → Option Place → List ℕ
unread texts None = []
unread texts (Some place) = drop place.at (text_at texts place.text)

-- the place lies in a text, and reads give something
pub record IsReadable (texts : Texts) (place : Option Place) (piece : ℕ) : Type 0 where
  pub inside : ForSome place (λ p. (p.text < length texts) × (p.at ≤ length (text_at texts p.text)))
  pub some : 1 ≤ piece
