-- The text of pins as it is read: the names of a line are put one after another.
use Rattle.std.specs.Prelude.{◌≡◌, ◌≢◌, ◌⊎◌, ℕ, Bool, true, List, [], ◌∷◌, length, codes, slice_get, slice_set, Some, Option, Any, MatchOption}
use Rattle.std.specs.List.{All}
use Rattle.sfm_spec.specs.Sets.{Has}
use Rattle.sfm_lines.specs.declared.reason.Reason.{Reason}
use Rattle.sfm_lines.specs.Parts.{IsSeparator}
use Rattle.sfm_lines.specs.ReadParts.{IsKnown}
use Rattle.sfm_text.specs.Language.{IsFirstOf}
use Rattle.sfm_side.specs.declared.pins.Pins.{Pins}
use Rattle.sfm_side.specs.declared.pins.Pin.{Pin}
use Rattle.sfm_side.specs.declared.pins.Pin.TheVariants.{In, Out}
use Rattle.sfm_side.specs.Pins.{PinData, HasPin}

-- what is read of pins
abbrev pub pins_of : Pins → PinData
pins_of pins = record { inside = pins.inside; outside = pins.outside }

-- both sets are of n elements
pub record AreOver (n : ℕ) (pins : PinData) : Type 0 where
  pub inside : length pins.inside ≡ n
  pub outside : length pins.outside ≡ n

-- the element of that name is pinned already
abbrev pub IsPinnedBefore : List (List ℕ) → PinData → List ℕ → Type 0
IsPinnedBefore names p text =
    (e : ℕ) × (slice_get names e ≡ Some text) × (Has p.inside e ⊎ Has p.outside e)

-- the word of a line
abbrev pub pin_word : Pin → List ℕ
pin_word In = codes "in"
pin_word Out = codes "out"

-- the set that a line adds to, and the other
abbrev pub to_of : Pin → PinData → List Bool
to_of In p = p.inside
to_of Out p = p.outside

abbrev pub other_of : Pin → PinData → List Bool
other_of In p = p.outside
other_of Out p = p.inside

-- each name is of an element that is in neither set, and puts it into the first
abbrev pub PutsNames : List (List ℕ) → (to other : List Bool) → List (List ℕ) → List Bool → Type 0
PutsNames names to other [] after = after ≡ to
PutsNames names to other (text ∷ texts) after = (e : ℕ) × (slice_get names e ≡ Some text)
    × (Has to e → ⊥) × (Has other e → ⊥) × PutsNames names (slice_set to e true) other texts after

-- one name is of an element that is in one of the sets already
abbrev pub PutsAgain : List (List ℕ) → (to other : List Bool) → List (List ℕ) → Type 0
PutsAgain names to other [] = ⊥
PutsAgain names to other (text ∷ texts) = (e : ℕ) × (slice_get names e ≡ Some text)
    × ((Has to e ⊎ Has other e)
    ⊎ ((Has to e → ⊥) × (Has other e → ⊥) × PutsAgain names (slice_set to e true) other texts))

-- the texts are names of elements, at least one, and none is a separator
pub record AreNamesGood (names texts : List (List ℕ)) : Type 0 where
  pub some : texts ≢ []
  pub unmarked : Any IsSeparator texts → ⊥
  pub known : All (IsKnown names) texts

-- so they are, or a line of them has that reason first, whatever is pinned
abbrev pub AreNamesTold : List (List ℕ) → List (List ℕ) → Option Reason → Type 0
AreNamesTold names texts result = MatchOption result (AreNamesGood names texts)
    (λ reason. (p : PinData) (pin : Pin)
    → IsFirstOf (HasPin names p (pin_word pin ∷ texts)) reason)

-- the names are put into the set of their pin, and the other stays
pub record PutsPins (names : List (List ℕ)) (pin : Pin) (p : PinData) (texts : List (List ℕ))
    (q : PinData) : Type 0 where
  pub puts : PutsNames names (to_of pin p) (other_of pin p) texts (to_of pin q)
  pub other : other_of pin q ≡ other_of pin p
