-- The text of pins: which elements a set must have, and which it must not have.
use Rattle.std.specs.Prelude.{◌≡◌, ◌≢◌, ◌↔◌, ◌⊎◌, ℕ, Bool, List, [], ◌∷◌, length, slice_get, codes, Any, Contains, Some}
use Rattle.sfm_spec.specs.Names.{IsName}
use Rattle.sfm_spec.specs.Sets.{Has, empty_set}
use Rattle.sfm_lines.specs.declared.reason.Reason.{Reason}
use Rattle.sfm_lines.specs.declared.reason.Reason.TheVariants.{Word, Shape, Name, Twice}
use Rattle.sfm_lines.specs.Parts.{IsSeparator}
use Rattle.sfm_lines.specs.TermLines.{StandsTwice}
use Rattle.sfm_side.specs.Side.{SideForm}

-- the members that a set must have, and those that it must not have
pub record PinData : Type 0 where
  pub inside : List Bool
  pub outside : List Bool

-- the tokens are a word and at least one name behind it
abbrev pub HasNames : List (List ℕ) → List ℕ → List (List ℕ) → Type 0
HasNames tokens word texts = (tokens ≡ word ∷ texts) × (texts ≢ []) × (Any IsSeparator texts → ⊥)

-- the tokens are those of a line of pins, with these names
abbrev pub IsPinLine : List (List ℕ) → List (List ℕ) → Type 0
IsPinLine tokens texts = HasNames tokens (codes "in") texts ⊎ HasNames tokens (codes "out") texts

-- t is s with the elements of these names besides
pub record IsWithNames (names texts : List (List ℕ)) (s t : List Bool) : Type 0 where
  pub places : length t ≡ length s
  pub exact : (e : ℕ) → Has t e ↔ (Has s e ⊎ ((text : List ℕ) × (slice_get names e ≡ Some text)
      × Contains texts text))

-- the reasons of a line. Twice: an element stands twice in it, or is pinned already
abbrev pub HasPin : List (List ℕ) → PinData → List (List ℕ) → Reason → Type 0
HasPin names p tokens Word =
    (rest : List (List ℕ)) → (tokens ≢ codes "in" ∷ rest) × (tokens ≢ codes "out" ∷ rest)
HasPin names p tokens Shape = (texts : List (List ℕ)) → IsPinLine tokens texts → ⊥
HasPin names p tokens Name = (texts : List (List ℕ)) × IsPinLine tokens texts
    × Any (λ text. IsName text → Contains names text → ⊥) texts
HasPin names p tokens Twice = (texts : List (List ℕ)) × IsPinLine tokens texts × (StandsTwice texts
    ⊎ Any (λ text. (e : ℕ) × (slice_get names e ≡ Some text) × (Has p.inside e ⊎ Has p.outside e)) texts)
HasPin names p tokens reason = ⊥

-- what a good line says
abbrev pub Pins : List (List ℕ) → PinData → List (List ℕ) → PinData → Type 0
Pins names p tokens q = (texts : List (List ℕ))
    × ((HasNames tokens (codes "in") texts × IsWithNames names texts p.inside q.inside
    × (q.outside ≡ p.outside))
    ⊎ (HasNames tokens (codes "out") texts × IsWithNames names texts p.outside q.outside
    × (q.inside ≡ p.inside)))

-- the texts of pins over a ground of these names
abbrev pub pins_form : List (List ℕ) → SideForm PinData
pins_form names = record {
  word = codes "pins";
  nothing = record { inside = empty_set (length names); outside = empty_set (length names) };
  HasIn = HasPin names;
  Says = Pins names;
}
