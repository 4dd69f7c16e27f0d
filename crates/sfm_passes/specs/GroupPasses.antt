-- What a piece of the line of a laminar rank is tried for, and what is known of a line whose pieces
-- have passed.
use Rattle.std.specs.Prelude.{◌≡◌, ℕ, ◌<◌, ◌≤◌, false, List, [], ◌∷◌, ◌++◌, length, codes, Any, Contains, Option, Some, None, MatchOption, Result, MatchResult}
use Rattle.std.specs.Borrow.{Bor}
use Rattle.std.specs.List.{All}
use Rattle.sfm_spec.specs.Kinds.{Group}
use Rattle.sfm_kind.specs.Instance.{InstanceData}
use Rattle.sfm_kind.specs.declared.kind.Kind.{Kind}
use Rattle.sfm_kind.specs.declared.version.Version.{Version}
use Rattle.sfm_lines.specs.declared.line_fault.LineEnd.{LineEnd}
use Rattle.sfm_lines.specs.declared.stage.Stage.TheVariants.{Terms}
use Rattle.sfm_lines.specs.declared.word.TermWord.{TermWord}
use Rattle.sfm_passes.specs.declared.group_test.GroupTest.{GroupTest}
use Rattle.sfm_passes.specs.declared.group_test.GroupTest.TheVariants.{Whole, Cap, Once}
use Rattle.sfm_passes.specs.declared.token_test.TokenTest.TheVariants.{Element}
use Rattle.sfm_lines.specs.declared.word.TermWord.TheVariants.{RankWord}
use Rattle.sfm_lines.specs.Lines.{tokens_of}
use Rattle.sfm_lines.specs.Parts.{IsSeparator, HaveNoSeparator}
use Rattle.sfm_lines.specs.CutParts.{IsGroupCut, is_semicolon, cut_at_semicolons}
use Rattle.sfm_lines.specs.RankLines.{members_of}
use Rattle.sfm_lines.specs.Words.{word_text}
use Rattle.sfm_lines.specs.TermLines.{IsNumberFor, StandsTwice}
use Rattle.sfm_lines.specs.PlainLines.{IsPlainRefusal}
use Rattle.sfm_lines.specs.ReadParts.{state_at, IsLineOf, IsTermRead, IsNumberOf}
use Rattle.sfm_passes.specs.Passes.{Holds}

-- tokens before and behind the first semicolon alone
pub record IsPieceCut (tokens piece rest : List (List ℕ)) : Type 0 where
  pub none_before : All (λ token. is_semicolon token ≡ false) piece
  pub cut : tokens ≡ piece ++ codes ";" ∷ rest

-- the pieces that are left
abbrev pub pieces_left : Option (Bor (List ℕ)) → List (List (List ℕ))
pieces_left None = []
pieces_left (Some line) = cut_at_semicolons (tokens_of line.now)

-- something holds of the cap and the names of a piece
abbrev pub OfGroup : (List ℕ → List (List ℕ) → Type 0) → List (List ℕ) → Type 0
OfGroup P piece = (cap : List ℕ) (names : List (List ℕ)) → piece ≡ cap ∷ names → P cap names

-- the piece has a cap and names of which something holds
abbrev pub SomeGroup : (List ℕ → List (List ℕ) → Type 0) → List (List ℕ) → Type 0
SomeGroup P piece = (cap : List ℕ) × (names : List (List ℕ)) × (piece ≡ cap ∷ names) × P cap names

-- the piece is a cap and at least one name
abbrev pub IsWhole : List (List ℕ) → Type 0
IsWhole piece = (group : List ℕ × List (List ℕ)) × IsGroupCut piece group

-- the cap of the piece is a number
abbrev pub HasCap : Version → List (List ℕ) → Type 0
HasCap version piece = OfGroup (λ cap names. IsNumberOf version RankWord cap) piece

-- no name stands twice in the piece
abbrev pub IsOnce : List (List ℕ) → Type 0
IsOnce piece = OfGroup (λ cap names. StandsTwice names → ⊥) piece

-- the piece passes the test, in a text of that version
abbrev pub GroupHolds : Version → GroupTest → List (List ℕ) → Type 0
GroupHolds version Whole piece = IsWhole piece
GroupHolds version Cap piece = HasCap version piece
GroupHolds version Once piece = IsOnce piece

-- the piece does not pass it
abbrev pub GroupFails : Version → GroupTest → List (List ℕ) → Type 0
GroupFails version Whole piece = IsWhole piece → ⊥
GroupFails version Cap piece = SomeGroup (λ cap names. IsNumberOf version RankWord cap → ⊥) piece
GroupFails version Once piece = SomeGroup (λ cap names. StandsTwice names) piece

-- each name of a piece is one of the elements
abbrev pub HasMembers : List (List ℕ) → List (List ℕ) → Type 0
HasMembers elements piece = OfGroup (λ cap names. All (Contains elements) names) piece

-- some name of a piece is not
abbrev pub LacksMember : List (List ℕ) → List (List ℕ) → Type 0
LacksMember elements piece = SomeGroup (λ cap names. Any (λ name. Contains elements name → ⊥) names)
    piece

-- the number, the elements and the pieces of the groups have the shape of the line
pub record AreShapedGroups (number : List ℕ) (elements : List (List ℕ))
    (pieces : List (List (List ℕ))) : Type 0 where
  pub no_separator : IsSeparator number → ⊥
  pub some : 0 < length elements
  pub unmarked : HaveNoSeparator elements
  pub whole : All IsWhole pieces

-- the number, the elements and the pieces of the groups have no reason before the law
pub record AreGoodGroups (i : InstanceData) (number : List ℕ) (elements : List (List ℕ))
    (pieces : List (List (List ℕ))) : Type 0 where
  pub no_separator : IsSeparator number → ⊥
  pub some : 1 ≤ length elements
  pub unmarked : HaveNoSeparator elements
  pub whole : All IsWhole pieces
  pub is_number : IsNumberOf i.version RankWord number
  pub caps : All (HasCap i.version) pieces
  pub known : All (Holds i Element) elements
  pub members : All (HasMembers elements) pieces
  pub once : StandsTwice elements → ⊥
  pub each_once : All IsOnce pieces

-- the group that a piece tells
pub record IsGroupOf (version : Version) (elements piece : List (List ℕ)) (group : Group) : Type
    0 where
  pub cut : List ℕ × List (List ℕ)
  pub whole : IsGroupCut piece cut
  pub is_cap : IsNumberFor version RankWord cut.0 group.cap
  pub are_members : group.members ≡ members_of elements cut.1

-- the tokens behind the word of a line of a laminar rank
abbrev pub laminar_tokens : List ℕ → List (List ℕ) → List (List ℕ)
laminar_tokens number behind = number ∷ codes "laminar" ∷ codes ":" ∷ behind

-- each line with this word and these tokens behind it is refused so
abbrev pub IsRefusedBy : InstanceData → TermWord → List (List ℕ) → LineEnd → Type 0
IsRefusedBy instance word tokens end = (line : List ℕ) → IsLineOf line (word_text word ∷ tokens)
    → IsPlainRefusal (state_at Terms instance) line end

-- a line with this word and these tokens behind it is told: by its term, or by its first reason, or
-- by what else holds of it
abbrev pub IsToldBy : InstanceData → TermWord → List (List ℕ) → Type 0
    → Result (Option Kind) LineEnd → Type 0
IsToldBy instance word tokens Other result =
    MatchResult result (λ told. MatchOption told Other (IsTermRead instance word tokens))
    (IsRefusedBy instance word tokens)
