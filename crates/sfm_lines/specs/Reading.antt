-- The state in which a text is read, the reasons for which a line is refused in a state, and the states that a good line
-- leads from and to.
use Rattle.std.specs.Prelude.{◌≡◌, ◌≢◌, ◌⊎◌, ℕ, ◌+◌, ◌<◌, ◌≤◌, List, [], ◌∷◌, ◌++◌, length, codes, Any, Contains, Option, is_some, if◌then◌else◌, ℤ, ◌+ℤ◌, ◌<ℤ◌}
use Rattle.std.specs.List.{All, AllZip}
use Rattle.sfm_spec.specs.Names.{IsName}
use Rattle.sfm_spec.specs.Families.{Meaning}
use Rattle.sfm_kind.specs.Instance.{support_of}
use Rattle.sfm_kind.specs.Meanings.{total_by, IsMeaningOf}
use Rattle.sfm_kind.specs.Layers.{AreTermsOf, Brings}
use Rattle.sfm_kind.specs.declared.kind.Kind.{Kind}
use Rattle.sfm_kind.specs.declared.version.Version.{Version}
use Rattle.sfm_kind.specs.declared.version.Version.TheVariants.{First}
use Rattle.sfm_lines.specs.declared.reason.Reason.{Reason}
use Rattle.sfm_lines.specs.declared.reason.Reason.TheVariants.{Long, Bytes, Word, Shape, Number, Name, Twice, Law, Total, Short}
use Rattle.sfm_lines.specs.declared.stage.Stage.{Stage}
use Rattle.sfm_lines.specs.declared.stage.Stage.TheVariants.{Header, Ground, Terms, Ended}
use Rattle.sfm_lines.specs.declared.line_fault.LineEnd.{LineEnd}
use Rattle.sfm_lines.specs.declared.line_fault.LineEnd.TheVariants.{Fault, Memory}
use Rattle.sfm_lines.specs.declared.word.RankKind.{RankKind}
use Rattle.sfm_lines.specs.declared.word.RankKind.TheVariants.{TransversalRank}
use Rattle.sfm_lines.specs.declared.word.TermWord.{TermWord}
use Rattle.sfm_lines.specs.Lines.{tokens_of}
use Rattle.sfm_lines.specs.Parts.{LineParts, IsSeparator}
use Rattle.sfm_lines.specs.Versions.{header_tokens, most_size}
use Rattle.sfm_lines.specs.Words.{word_text, BreaksLaw}
use Rattle.sfm_lines.specs.TermLines.{IsShaped, IsNumberFor, StandsTwice, StandsFor}
use Rattle.sfm_lines.specs.Weights.{IsPlainLine, IsWeightText, AreWeights}

-- which line is due, the version, the names of the ground, the terms so far, and for each term line the number of its layers, 0 for a
-- line of one plain term
pub record State : Type 0 where
  pub stage : Stage
  pub version : Version
  pub names : List (List ℕ)
  pub terms : List Kind
  pub lines : List ℕ

-- before the first content line
abbrev pub start : State
start = record { stage = Header; version = First; names = []; terms = []; lines = [] }

-- the reasons, in their order on a line
abbrev pub reasons : List Reason
reasons = Long ∷ Bytes ∷ Word ∷ Shape ∷ Number ∷ Name ∷ Twice ∷ Law ∷ Total ∷ Short ∷ []

-- neither a tab nor a byte from the space to `~`
abbrev pub IsBadByte : ℕ → Type 0
IsBadByte c = (c ≢ 9) × ((c < 32) ⊎ (126 < c))

-- a term line of which something holds of the word, the tokens behind it and the parts
abbrev pub HasTermLine : List (List ℕ) → (TermWord → List (List ℕ) → LineParts → Type 0) → Type 0
HasTermLine tokens P = (word : TermWord) × (rest : List (List ℕ)) × (parts : LineParts) × IsShaped tokens word rest parts × P word rest parts

-- some name of a group is not one of the elements of its line
abbrev pub HasStranger : LineParts → Type 0
HasStranger parts = Any (λ names. Any (λ text. Contains parts.elements text → ⊥) names) parts.groups

-- some label is not of the form of a name
abbrev pub HasWrongLabel : LineParts → Type 0
HasWrongLabel parts = Any (λ labels. Any (λ text. IsName text → ⊥) labels) parts.labels

-- a slot stands twice in one entry; both ends of an edge may be one vertex
abbrev pub HasSlotTwice : RankKind → List (List (List ℕ)) → Type 0
HasSlotTwice TransversalRank labels = Any (λ slots. StandsTwice slots) labels
HasSlotTwice _ labels = ⊥

-- with one more line, of so many places and that size, there are more lines, places or sizes than a text may have in all; the size of
-- a term is that of its meaning
abbrev pub AreTooMuch : Version → List ℕ → List Kind → ℕ → ℤ → Type 0
AreTooMuch version lines terms places total = (4096 ≤ length lines) ⊎ (16384 < support_of terms + places) ⊎ ((meant : List Meaning) × AllZip IsMeaningOf terms meant × (most_size version <ℤ (total_by terms meant +ℤ total)))

-- a term line with these tokens, without weights of its elements, has that reason. Shape: the tokens do not fit the pattern of the line.
-- Number: what stands in a number's place is no number, or one outside its range. Name: what stands in a name's place is no name, or none
-- of the ground where an element is meant, or no element of the line where one of a group is meant. Twice: an element stands twice in
-- the line or in one of its groups, or a slot in an entry. Law: the numbers break the law of the kind
abbrev pub HasPlain : State → List (List ℕ) → Reason → Type 0
HasPlain s tokens Shape = (word : TermWord) (rest : List (List ℕ)) (parts : LineParts) → IsShaped tokens word rest parts → ⊥
HasPlain s tokens Number = HasTermLine tokens (λ word rest parts. Any (λ text. (value : ℤ) → IsNumberFor s.version word text value → ⊥) parts.numbers)
HasPlain s tokens Name = HasTermLine tokens (λ word rest parts. Any (λ text. IsName text → Contains s.names text → ⊥) parts.elements ⊎ HasStranger parts ⊎ HasWrongLabel parts)
HasPlain s tokens Twice = HasTermLine tokens (λ word rest parts. StandsTwice parts.elements ⊎ Any (λ names. StandsTwice names) parts.groups ⊎ HasSlotTwice parts.rank parts.labels)
HasPlain s tokens Law = HasTermLine tokens (λ word rest parts. (values : List ℤ) × AllZip (IsNumberFor s.version word) parts.numbers values × BreaksLaw word parts values)
HasPlain s tokens reason = ⊥

-- a term line says this term, and these weights of its elements
abbrev pub Says : Version → List (List ℕ) → List (List ℕ) → Kind → Option (List ℤ) → Type 0
Says version names tokens term weights = (plain : List (List ℕ)) × (entries : List (List ℕ × Option (List ℕ))) × IsPlainLine version tokens plain entries × StandsFor version names plain term × AreWeights entries weights

-- the tokens have that reason as a header. Word: they do not begin with `sfm`. Shape: they are the header of no version
abbrev pub HasHeaderReason : List (List ℕ) → Reason → Type 0
HasHeaderReason tokens Word = (rest : List (List ℕ)) → tokens ≢ codes "sfm" ∷ rest
HasHeaderReason tokens Shape = (version : Version) → tokens ≢ header_tokens version
HasHeaderReason tokens reason = ⊥

-- the tokens have that reason as the line of names. Word: they do not begin with `ground`. Shape: a separator is among
-- them. Name: a token behind `ground` is no name. Twice: one stands there twice. Total: more than 256 stand there
abbrev pub HasGroundReason : List (List ℕ) → Reason → Type 0
HasGroundReason tokens Word = (rest : List (List ℕ)) → tokens ≢ codes "ground" ∷ rest
HasGroundReason tokens Shape = Any IsSeparator tokens
HasGroundReason tokens Name = (rest : List (List ℕ)) × (tokens ≡ codes "ground" ∷ rest) × Any (λ text. IsName text → ⊥) rest
HasGroundReason tokens Twice = (rest : List (List ℕ)) × (tokens ≡ codes "ground" ∷ rest) × StandsTwice rest
HasGroundReason tokens Total = (rest : List (List ℕ)) × (tokens ≡ codes "ground" ∷ rest) × (256 < length rest)
HasGroundReason tokens reason = ⊥

-- the tokens have that reason as a term line, or the line `end`. Word: they begin with neither `end` nor the word of a
-- term. Shape: they are not `end` alone, and without the weights of elements they have no shape of a term line. Total:
-- with this line there is too much in all. Number: as of the line without weights, or what stands in the place of a
-- weight is none. The others: as of the line without weights
abbrev pub HasTermReason : State → List (List ℕ) → Reason → Type 0
HasTermReason s tokens Word = ((rest : List (List ℕ)) → tokens ≢ codes "end" ∷ rest) × ((word : TermWord) (rest : List (List ℕ)) → tokens ≢ word_text word ∷ rest)
HasTermReason s tokens Shape = (tokens ≢ codes "end" ∷ []) × ((plain : List (List ℕ)) (entries : List (List ℕ × Option (List ℕ))) → IsPlainLine s.version tokens plain entries → HasPlain s plain Shape)
HasTermReason s tokens Total = (term : Kind) × (weights : Option (List ℤ)) × Says s.version s.names tokens term weights × ((places : ℕ) × (total : ℤ) × Brings term weights places total × AreTooMuch s.version s.lines s.terms places total)
HasTermReason s tokens reason = (plain : List (List ℕ)) × (entries : List (List ℕ × Option (List ℕ))) × IsPlainLine s.version tokens plain entries × (HasPlain s plain reason ⊎ ((reason ≡ Number) × Any (λ entry. (value : ℤ) → IsWeightText entry.1 value → ⊥) entries))

-- a line with these tokens has that reason where the line of that stage is due; behind `end` no line is
abbrev pub HasAt : Stage → State → List (List ℕ) → Reason → Type 0
HasAt Header s tokens reason = HasHeaderReason tokens reason
HasAt Ground s tokens reason = HasGroundReason tokens reason
HasAt Terms s tokens reason = HasTermReason s tokens reason
HasAt Ended s tokens Word = Unit {0}
HasAt Ended s tokens reason = ⊥

-- the line has that reason in that state; that a text is too long or too short is said of no line
abbrev pub HasReason : State → List ℕ → Reason → Type 0
HasReason s line Long = ⊥
HasReason s line Short = ⊥
HasReason s line Bytes = Any IsBadByte line
HasReason s line reason = HasAt s.stage s (tokens_of line) reason

-- the line has that reason and none that comes before it
pub record IsFirstReason (s : State) (line : List ℕ) (reason : Reason) : Type 0 where
  pub holds : HasReason s line reason
  pub first : (before behind : List Reason) → reasons ≡ before ++ reason ∷ behind → All (λ earlier. HasReason s line earlier → ⊥) before

-- a term line adds its term, or where elements of it have weights its layers
abbrev pub AddsTerm : State → List (List ℕ) → State → Type 0
AddsTerm s tokens t = (term : Kind) × (weights : Option (List ℤ)) × Says s.version s.names tokens term weights × (terms : List Kind) × AreTermsOf term weights terms × (t ≡ record s { stage = Terms; terms = s.terms ++ terms; lines = s.lines ++ (if is_some weights then length terms else 0) ∷ [] })

-- what a line with these tokens leads to
abbrev pub Adds : Stage → State → List (List ℕ) → State → Type 0
Adds Header s tokens t = (version : Version) × (tokens ≡ header_tokens version) × (t ≡ record start { stage = Ground; version = version })
Adds Ground s tokens t = (names : List (List ℕ)) × (tokens ≡ codes "ground" ∷ names) × (t ≡ record s { stage = Terms; names = names; terms = []; lines = [] })
Adds Terms s tokens t = ((tokens ≡ codes "end" ∷ []) × (t ≡ record s { stage = Ended })) ⊎ AddsTerm s tokens t
Adds Ended s tokens t = ⊥

-- the line is good in the state s and leads to the state t
pub record Takes (s : State) (line : List ℕ) (t : State) : Type 0 where
  pub good : (reason : Reason) → HasReason s line reason → ⊥
  pub adds : Adds s.stage s (tokens_of line) t

-- ---- the reasons by their numbers, as the code goes through them

-- the order of the reasons on a line
abbrev pub reason_order : Reason → ℕ
reason_order Long = 0
reason_order Bytes = 1
reason_order Word = 2
reason_order Shape = 3
reason_order Number = 4
reason_order Name = 5
reason_order Twice = 6
reason_order Law = 7
reason_order Total = 8
reason_order Short = 9

-- the line has that reason and none of a lower number
pub record FirstReason (s : State) (line : List ℕ) (reason : Reason) : Type 0 where
  pub holds : HasReason s line reason
  pub first : (earlier : Reason) → reason_order earlier < reason_order reason → HasReason s line earlier → ⊥

-- a refusal names the first reason; want of memory says nothing
abbrev pub IsLineRefusal : State → List ℕ → LineEnd → Type 0
IsLineRefusal s line (Fault reason) = FirstReason s line reason
IsLineRefusal s line Memory = Unit {0}
