-- What the parts of a line stand for, and what is known of a line whose parts have been read.
use Rattle.std.specs.Prelude.{◌≡◌, ◌≢◌, ◌⊎◌, ◌+◌, ◌<◌, ◌^◌, ◌≤ℤ◌, ℕ, List, [], ◌∷◌, length, codes, map, Any, Contains, Option, MatchOption, ℤ}
use Rattle.std.specs.List.{All, flat_map}
use Rattle.sfm_spec.specs.Bounds.{IsAtMost, AreElements}
use Rattle.sfm_spec.specs.Names.{IsName}
use Rattle.sfm_kind.specs.Instance.{InstanceData}
use Rattle.sfm_kind.specs.Meanings.{kind_places}
use Rattle.sfm_kind.specs.declared.kind.Kind.{Kind}
use Rattle.sfm_kind.specs.declared.version.Version.{Version}
use Rattle.sfm_kind.specs.declared.version.Version.TheVariants.{Second}
use Rattle.sfm_lines.specs.declared.reason.Reason.{Reason}
use Rattle.sfm_lines.specs.declared.reason.Reason.TheVariants.{Name, Twice}
use Rattle.sfm_lines.specs.declared.stage.Stage.{Stage}
use Rattle.sfm_lines.specs.declared.stage.Stage.TheVariants.{Terms}
use Rattle.sfm_lines.specs.declared.labels.Labels.{Labels}
use Rattle.sfm_lines.specs.declared.parts.Parts.{Parts}
use Rattle.sfm_lines.specs.declared.word.RankKind.TheVariants.{TransversalRank}
use Rattle.sfm_lines.specs.declared.word.TermWord.{TermWord}
use Rattle.sfm_lines.specs.declared.word.TermWord.TheVariants.{RankWord}
use Rattle.sfm_lines.specs.Lines.{texts_of, text_lists_of, tokens_of}
use Rattle.sfm_lines.specs.Parts.{LineParts, IsLabelledLine}
use Rattle.sfm_lines.specs.CutParts.{AreCounts}
use Rattle.sfm_lines.specs.Words.{word_text, lowest_of, BreaksLaw, IsMadeOf}
use Rattle.sfm_lines.specs.TermLines.{AreRead, StandsFor, StandsTwice, IsNumberFor, IsElement}
use Rattle.sfm_lines.specs.Reading.{State, IsBadByte, HasStranger, HasWrongLabel, reason_order}
use Rattle.sfm_lines.specs.PlainLines.{HasPlainly}

-- the texts that labels point to
abbrev pub label_lists_of : List Labels → List (List (List ℕ))
label_lists_of lists = map (λ labels. texts_of labels.texts.items) lists

-- the texts that the parts point to
abbrev pub parts_of : Parts → LineParts
parts_of parts = record { numbers = texts_of parts.numbers.items; elements = texts_of parts.elements.items; rank = parts.rank; groups = text_lists_of parts.groups.items; labels = label_lists_of parts.labels.items }

-- the tokens are such a line with these parts, or none where there are no parts
abbrev pub HasLineParts : (List (List ℕ) → LineParts → Type 0) → List (List ℕ) → Option Parts → Type 0
HasLineParts IsLine tokens found = MatchOption found ((parts : LineParts) → IsLine tokens parts → ⊥) (λ parts. IsLine tokens (parts_of parts))

-- the texts of all lists, in their order
abbrev pub joined : List (List (List ℕ)) → List (List ℕ)
joined lists = flat_map (λ texts. texts) lists

-- what the term of a word takes of the numbers and the places of its line
pub record AreGiven (word : TermWord) (values : List ℤ) (places : List ℕ) : Type 0 where
  pub counts : AreCounts word (length values) (length places)
  pub elements : AreElements places
  pub low : All (λ value. lowest_of Second word ≤ℤ value) values
  pub small : All (IsAtMost (10 ^ 15)) values

-- the parts of a line have been read that is none of a transversal rank, and has few labels
pub record AreReady (word : TermWord) (parts : LineParts) (values : List ℤ) (places : List ℕ) : Type 0 where
  pub read : AreRead word parts values places
  pub other : parts.rank ≢ TransversalRank
  pub few : length (joined parts.labels) < 2 ^ 24

-- each name of a group is that of an element of the line, and each label has the form of a name
pub record ArePartsNamed (parts : LineParts) : Type 0 where
  pub members : All (λ names. All (Contains parts.elements) names) parts.groups
  pub labels : All (λ texts. All IsName texts) parts.labels

-- and neither an element, by its place, stands twice, nor a name of a group
pub record ArePartsGood (parts : LineParts) (places : List ℕ) : Type 0 where
  pub named : ArePartsNamed parts
  pub once : StandsTwice places → ⊥
  pub members_once : All (λ names. StandsTwice names → ⊥) parts.groups

-- the first reason of groups, labels and places
abbrev pub IsPartsReason : LineParts → List ℕ → Reason → Type 0
IsPartsReason parts places Name = HasStranger parts ⊎ HasWrongLabel parts
IsPartsReason parts places Twice = ArePartsNamed parts × (StandsTwice places ⊎ Any (λ names. StandsTwice names) parts.groups)
IsPartsReason parts places _ = ⊥

-- the term that a line with these parts stands for, with these numbers and elements at these places
pub record IsTermOf (word : TermWord) (parts : LineParts) (values : List ℤ) (places : List ℕ) (term : Kind) : Type 0 where
  pub same_places : kind_places term ≡ places
  pub made : IsMadeOf word parts values term

-- the term of each line of the word with these numbers and places
abbrev pub IsTermFor : TermWord → List ℤ → List ℕ → Kind → Type 0
IsTermFor word values places term = (parts : LineParts) → IsTermOf word parts values places term

-- the term of a line with these parts, or none where its numbers break the law of their kind
abbrev pub IsTermMade : TermWord → LineParts → List ℤ → List ℕ → Option Kind → Type 0
IsTermMade word parts values places made = MatchOption made (BreaksLaw word parts values) (λ term. IsTermOf word parts values places term × (BreaksLaw word parts values → ⊥))

-- how many bytes texts have in all
abbrev pub bytes_in : List (List ℕ) → ℕ
bytes_in [] = 0
bytes_in (text ∷ texts) = length text + bytes_in texts

-- the state with that stage and what has been read into an instance
abbrev pub state_at : Stage → InstanceData → State
state_at stage instance = record { stage = stage; version = instance.version; names = instance.names; terms = instance.terms; lines = instance.lines }

-- the line has these tokens, and no bad byte
pub record IsLineOf (line : List ℕ) (tokens : List (List ℕ)) : Type 0 where
  pub tokens_are : tokens_of line ≡ tokens
  pub good_bytes : Any IsBadByte line → ⊥

-- the term of a line with this word and these tokens behind it, which has no reason but perhaps that there is too much
pub record IsTermRead (instance : InstanceData) (word : TermWord) (rest : List (List ℕ)) (term : Kind) : Type 0 where
  pub stands : StandsFor instance.version instance.names (word_text word ∷ rest) term
  pub good : (line : List ℕ) (reason : Reason) → IsLineOf line (word_text word ∷ rest) → reason_order reason < 8 → HasPlainly (state_at Terms instance) line reason → ⊥

-- the text is that of a number of the line of that word
abbrev pub IsNumberOf : Version → TermWord → List ℕ → Type 0
IsNumberOf version word text = (value : ℤ) × IsNumberFor version word text value

-- the text names an element of the ground
abbrev pub IsKnown : List (List ℕ) → List ℕ → Type 0
IsKnown names text = (place : ℕ) × IsElement names text place

-- the tokens behind the word are those of a line of a transversal rank
abbrev pub IsEntryLine : TermWord → List (List ℕ) → Type 0
IsEntryLine RankWord tokens = (parts : LineParts) × IsLabelledLine TransversalRank (codes "transversal") tokens parts
IsEntryLine _ tokens = ⊥
