-- What a token of a long line is tried for, and what the reason of such a line is.
use Rattle.std.specs.Prelude.{◌≡◌, ◌≢◌, ℕ, ◌<◌, ◌≤◌, List, [], ◌∷◌, ◌++◌, length, map, take, codes, Any, ℤ}
use Rattle.std.specs.List.{All, AllZip}
use Rattle.sfm_spec.specs.Names.{IsName}
use Rattle.sfm_kind.specs.Instance.{InstanceData}
use Rattle.sfm_kind.specs.declared.version.Version.{Version}
use Rattle.sfm_lines.specs.declared.reason.Reason.{Reason}
use Rattle.sfm_passes.specs.declared.between.Separator.{Separator}
use Rattle.sfm_passes.specs.declared.between.Separator.TheVariants.{Blanks, Comma}
use Rattle.sfm_lines.specs.declared.stage.Stage.TheVariants.{Terms}
use Rattle.sfm_passes.specs.declared.token_test.TokenTest.{TokenTest}
use Rattle.sfm_passes.specs.declared.token_test.TokenTest.TheVariants.{Pair, PairNumber, PairElement, Value, Element, Labelled, LabelledElement, NamedLabels}
use Rattle.sfm_lines.specs.declared.word.RankKind.{RankKind}
use Rattle.sfm_lines.specs.declared.word.RankKind.TheVariants.{NoRank, UniformRank, LaminarRank, GraphicRank, TransversalRank}
use Rattle.sfm_lines.specs.declared.word.TermWord.{TermWord}
use Rattle.sfm_lines.specs.declared.word.TermWord.TheVariants.{WeightWord, ConcaveWord, RankWord}
use Rattle.sfm_lines.specs.Lines.{pieces_of, tokens_of}
use Rattle.sfm_lines.specs.Parts.{LineParts, IsSeparator, IsPairToken, IsLabelToken}
use Rattle.sfm_lines.specs.Words.{word_text, HasParts}
use Rattle.sfm_lines.specs.TermLines.{IsNumberFor, StandsTwice}
use Rattle.sfm_lines.specs.PlainLines.{FirstPlain}
use Rattle.sfm_lines.specs.ReadParts.{state_at, IsLineOf, IsNumberOf, IsKnown}

-- the token passes the test, in a line of a text that the instance has been read of
abbrev pub Holds : InstanceData → TokenTest → List ℕ → Type 0
Holds i Pair token = (pair : List ℕ × List ℕ) × IsPairToken token pair
Holds i PairNumber token = (pair : List ℕ × List ℕ) × IsPairToken token pair
    × IsNumberOf i.version WeightWord pair.1
Holds i PairElement token = (pair : List ℕ × List ℕ) × IsPairToken token pair
    × IsKnown i.names pair.0
Holds i Value token = IsNumberOf i.version ConcaveWord token
Holds i Element token = IsKnown i.names token
Holds i (Labelled rank) token = (entry : List ℕ × List (List ℕ)) × IsLabelToken rank token entry
Holds i (LabelledElement rank) token = (entry : List ℕ × List (List ℕ))
    × IsLabelToken rank token entry × IsKnown i.names entry.0
Holds i (NamedLabels rank) token = (entry : List ℕ × List (List ℕ)) × IsLabelToken rank token entry
    × All IsName entry.1

-- the token does not pass it; of labels, some has not the form of a name
abbrev pub Fails : InstanceData → TokenTest → List ℕ → Type 0
Fails i (NamedLabels rank) token = (entry : List ℕ × List (List ℕ)) → IsLabelToken rank token entry
    → Any (λ text. IsName text → ⊥) entry.1
Fails i test token = Holds i test token → ⊥

-- the elements of a line of that rank have labels
abbrev pub HasLabels : RankKind → Type 0
HasLabels GraphicRank = Unit {0}
HasLabels TransversalRank = Unit {0}
HasLabels _ = ⊥

-- the word of a rank whose elements have labels
abbrev pub label_word : RankKind → List ℕ
label_word GraphicRank = codes "graphic"
label_word TransversalRank = codes "transversal"
label_word _ = []

-- the text is the word of that rank, or that of none
abbrev pub IsRankNamed : RankKind → List ℕ → Type 0
IsRankNamed NoRank text = (text ≢ codes "uniform") × (text ≢ codes "laminar")
    × (text ≢ codes "graphic") × (text ≢ codes "transversal")
IsRankNamed UniformRank text = text ≡ codes "uniform"
IsRankNamed LaminarRank text = text ≡ codes "laminar"
IsRankNamed GraphicRank text = text ≡ codes "graphic"
IsRankNamed TransversalRank text = text ≡ codes "transversal"

-- the texts between commas behind the first byte, which stands before the first of them
abbrev pub slots_behind : List ℕ → List (List ℕ)
slots_behind [] = []
slots_behind (c ∷ text) = pieces_of 44 text

-- the texts of a line between such separators: its tokens, or slots
abbrev pub texts_between : Separator → List ℕ → List (List ℕ)
texts_between Blanks line = tokens_of line
texts_between Comma line = slots_behind line

-- the token is an entry in which a slot stands twice
abbrev pub RepeatsSlot : List ℕ → Type 0
RepeatsSlot token = (entry : List ℕ × List (List ℕ)) × IsLabelToken TransversalRank token entry
    × StandsTwice entry.1

-- elements with labels that have no reason before that something stands twice
pub record AreGoodEntries (i : InstanceData) (rank : RankKind) (number colon : List ℕ)
    (tokens : List (List ℕ)) : Type 0 where
  pub no_separator : IsSeparator number → ⊥
  pub is_colon : colon ≡ codes ":"
  pub each : All (Holds i (Labelled rank)) tokens
  pub is_number : IsNumberOf i.version RankWord number
  pub known : All (Holds i (LabelledElement rank)) tokens
  pub named : All (Holds i (NamedLabels rank)) tokens

-- entries of a transversal rank that have no reason but perhaps that an element stands twice
pub record AreFewEntries (i : InstanceData) (number colon : List ℕ) (tokens : List (List ℕ)) : Type
    0 where
  pub good : AreGoodEntries i TransversalRank number colon tokens
  pub few : length tokens ≤ 256
  pub once : All (λ token. RepeatsSlot token → ⊥) tokens

-- elements and first slots, as many of each entry as there are entries, of such entries of which
-- there is at least one
pub record AreCutEntries (i : InstanceData) (number colon : List ℕ) (tokens : List (List ℕ))
    (parts : LineParts) : Type 0 where
  pub good : AreFewEntries i number colon tokens
  pub some : 0 < length tokens
  pub entries : List (List ℕ × List (List ℕ))
  pub each : AllZip (IsLabelToken TransversalRank) tokens entries
  pub elements_are : parts.elements ≡ map (λ entry. entry.0) entries
  pub labels_are : parts.labels ≡ map (λ entry. take (length tokens) entry.1) entries

-- the tokens are those that are kept and then the rest, and none is kept twice
pub record IsKept (tokens kept rest : List (List ℕ)) : Type 0 where
  pub cut : tokens ≡ kept ++ rest
  pub once : StandsTwice kept → ⊥

-- each line with this word and these tokens behind it has that reason first
abbrev pub IsReasonOf : InstanceData → TermWord → List (List ℕ) → Reason → Type 0
IsReasonOf instance word tokens reason = (line : List ℕ) → IsLineOf line (word_text word ∷ tokens)
    → FirstPlain (state_at Terms instance) line reason

-- the line has numbers of its word and those elements, which are more than a ground has, and
-- nothing else
pub record HasTooMany (version : Version) (word : TermWord) (rest elements : List (List ℕ)) : Type
    0 where
  pub parts : LineParts
  pub shape : HasParts word rest parts
  pub numbers : List ℤ
  pub are_numbers : AllZip (IsNumberFor version word) parts.numbers numbers
  pub elements_are : parts.elements ≡ elements
  pub no_groups : parts.groups ≡ []
  pub no_labels : parts.labels ≡ []
  pub many : 256 < length elements
