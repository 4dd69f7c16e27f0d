-- What a term line says, once for all words: the parts in the places of numbers and of elements, and the term that they
-- make with the names of the ground.
use Rattle.std.specs.Prelude.{◌≡◌, ℕ, ◌<◌, List, ◌∷◌, length, slice_get, Some, ℤ, ◌≤ℤ◌}
use Rattle.std.specs.List.{AllZip}
use Rattle.sfm_spec.specs.Sets.{IsPlaced}
use Rattle.sfm_base.specs.NumberText.{IsNumber}
use Rattle.sfm_kind.specs.Meanings.{kind_places}
use Rattle.sfm_kind.specs.declared.kind.Kind.{Kind}
use Rattle.sfm_kind.specs.declared.version.Version.{Version}
use Rattle.sfm_lines.specs.declared.word.TermWord.{TermWord}
use Rattle.sfm_lines.specs.Parts.{LineParts}
use Rattle.sfm_lines.specs.Versions.{most_written}
use Rattle.sfm_lines.specs.Words.{word_text, lowest_of, HasParts, IsMadeOf}

-- the tokens are those of a line with this word, and have these parts
abbrev pub IsShaped : List (List ℕ) → TermWord → List (List ℕ) → LineParts → Type 0
IsShaped tokens word rest parts = (tokens ≡ word_text word ∷ rest) × HasParts word rest parts

-- the text of a number that may stand in the line of a word
abbrev pub IsNumberFor : Version → TermWord → List ℕ → ℤ → Type 0
IsNumberFor version word text value = IsNumber text value × (lowest_of version word ≤ℤ value) × (value ≤ℤ most_written version)

-- the name of the element at that place of the ground
abbrev pub IsElement : List (List ℕ) → List ℕ → ℕ → Type 0
IsElement names text place = slice_get names place ≡ Some text

-- something stands twice in the list
abbrev pub StandsTwice : {X : Type 0} → List X → Type 0
StandsTwice texts = (earlier : ℕ) × (later : ℕ) × (earlier < later) × (later < length texts) × (slice_get texts earlier ≡ slice_get texts later)

-- the line stands for this term over a ground of these names
pub record StandsFor (version : Version) (names tokens : List (List ℕ)) (term : Kind) : Type 0 where
  pub word : TermWord
  pub rest : List (List ℕ)
  pub parts : LineParts
  pub values : List ℤ
  pub places : List ℕ
  pub shaped : IsShaped tokens word rest parts
  pub numbers : AllZip (IsNumberFor version word) parts.numbers values
  pub elements : AllZip (λ text place. slice_get names place ≡ Some text) parts.elements places
  pub same_places : kind_places term ≡ places
  pub made : IsMadeOf word parts values term

-- the parts of a line with this word have been read: what its term is to be made of
pub record AreRead (word : TermWord) (parts : LineParts) (values : List ℤ) (places : List ℕ) : Type 0 where
  pub version : Version
  pub tokens : List (List ℕ)
  pub shape : HasParts word tokens parts
  pub numbers : AllZip (IsNumberFor version word) parts.numbers values
  pub elements : length places ≡ length parts.elements
  pub placed : IsPlaced 256 places
