-- How the code cuts the tokens of a line, told in the order of its steps: at the first byte or the
-- first colon, between semicolons, and one element with labels after the other; and what it then
-- makes of the pieces.
use Rattle.std.specs.Prelude.{◌≡◌, ◌≢◌, ℕ, ◌-◌, ◌<◌, ◌≤◌, ◌^◌, take, slice_index, slice_get, Some, Bool, List, [], ◌∷◌, ◌++◌, length, map, codes, bytes_eq}
use Rattle.std.specs.List.{All, slice_split, AllZip, position_or_len}
use Rattle.sfm_spec.specs.Kinds.{Group}
use Rattle.sfm_laminar.specs.Crossing.{group_at}
use Rattle.sfm_lines.specs.declared.word.RankKind.{RankKind}
use Rattle.sfm_lines.specs.declared.word.RankKind.TheVariants.{LaminarRank}
use Rattle.sfm_lines.specs.declared.word.TermWord.{TermWord}
use Rattle.sfm_lines.specs.declared.word.TermWord.TheVariants.{WeightWord, CutWord, NeedWord, CoverWord, TableWord, ConcaveWord, RankWord}
use Rattle.sfm_lines.specs.Parts.{LineParts, HaveNoSeparator, IsSplitAt, IsLabelToken}

-- the first byte b of the text stands at that place
pub record IsFirstAt (b : ℕ) (text : List ℕ) (place : ℕ) : Type 0 where
  pub within : place < length text
  pub here : slice_index text place ≡ b
  pub none_before : All (λ c. c ≢ b) (take place text)

-- the first colon alone stands at that place
pub record IsFirstColon (tokens : List (List ℕ)) (place : ℕ) : Type 0 where
  pub here : slice_get tokens place ≡ Some (codes ":")
  pub none_before : All (λ token. token ≢ codes ":") (take place tokens)

-- how many numbers and elements the line of a word has
abbrev pub AreCounts : TermWord → ℕ → ℕ → Type 0
AreCounts WeightWord numbers elements = (1 ≤ elements) × (numbers ≡ elements)
AreCounts CutWord numbers elements = (numbers ≡ 1) × (elements ≡ 2)
AreCounts NeedWord numbers elements = (numbers ≡ 0) × (elements ≡ 2)
AreCounts CoverWord numbers elements = (1 ≤ elements) × (numbers ≡ 1)
AreCounts TableWord numbers elements = (1 ≤ elements) × (elements ≤ 8) × (numbers ≡ 2 ^ elements)
AreCounts ConcaveWord numbers elements = (1 ≤ elements) × (numbers ≡ elements)
AreCounts RankWord numbers elements = 1 ≤ elements

-- so many numbers and then elements, in the counts of the word
abbrev pub IsSplitLine : TermWord → ℕ → List (List ℕ) → LineParts → Type 0
IsSplitLine word count tokens parts = (count ≤ length tokens)
    × AreCounts word count (length tokens - count) × IsSplitAt count tokens parts

-- a semicolon alone
abbrev pub is_semicolon : List ℕ → Bool
is_semicolon token = bytes_eq token (codes ";")

-- the runs of tokens between semicolons alone
abbrev pub cut_at_semicolons : List (List ℕ) → List (List (List ℕ))
cut_at_semicolons tokens = slice_split is_semicolon tokens

-- a cap and at least one name
pub record IsGroupCut (tokens : List (List ℕ)) (group : List ℕ × List (List ℕ)) : Type 0 where
  pub cut : tokens ≡ group.0 ∷ group.1
  pub some : 1 ≤ length group.1
  pub unmarked : HaveNoSeparator tokens

-- at least one element, and groups
pub record AreGroupsCut (pieces : List (List (List ℕ))) (elements : List (List ℕ))
    (groups : List (List ℕ × List (List ℕ))) : Type 0 where
  pub rest : List (List (List ℕ))
  pub pieces_are : pieces ≡ elements ∷ rest
  pub some : 1 ≤ length elements
  pub unmarked : HaveNoSeparator elements
  pub each : AllZip IsGroupCut rest groups

-- the number and the caps, the elements, and the names of the groups
abbrev pub laminar_parts_of : List ℕ → List (List ℕ) → List (List ℕ × List (List ℕ)) → LineParts
laminar_parts_of number elements groups =
    record {
      numbers = number ∷ map (λ group. group.0) groups;
      elements = elements;
      rank = LaminarRank;
      groups = map (λ group. group.1) groups;
      labels = [];
    }

-- at least one such token
pub record AreLabelled (rank : RankKind) (tokens : List (List ℕ))
    (entries : List (List ℕ × List (List ℕ))) : Type 0 where
  pub some : 1 ≤ length tokens
  pub each : AllZip (IsLabelToken rank) tokens entries

-- the number, the elements, and their labels
abbrev pub labelled_parts_of : RankKind → List ℕ → List (List ℕ × List (List ℕ)) → LineParts
labelled_parts_of rank number entries =
    record {
      numbers = number ∷ [];
      elements = map (λ entry. entry.0) entries;
      rank = rank;
      groups = [];
      labels = map (λ entry. entry.1) entries;
    }

-- the caps and the names of such groups, behind the numbers and the groups of a line
abbrev pub with_groups : LineParts → List (List ℕ × List (List ℕ)) → LineParts
with_groups parts groups = record {
  numbers = parts.numbers ++ map (λ group. group.0) groups;
  elements = parts.elements;
  rank = parts.rank;
  groups = parts.groups ++ map (λ group. group.1) groups;
  labels = parts.labels;
}

-- further elements with labels, behind those of a line
abbrev pub with_labelled : LineParts → List (List ℕ × List (List ℕ)) → LineParts
with_labelled parts entries = record {
  numbers = parts.numbers;
  elements = parts.elements ++ map (λ entry. entry.0) entries;
  rank = parts.rank;
  groups = parts.groups;
  labels = parts.labels ++ map (λ entry. entry.1) entries;
}

-- the place at which a text stands among others
abbrev pub place_among : List (List ℕ) → List ℕ → ℕ
place_among texts text = position_or_len (λ other. bytes_eq text other) texts

-- the first group with these members stands at that place
pub record IsFirstWith (members : List ℕ) (groups : List Group) (place : ℕ) : Type 0 where
  pub within : place < length groups
  pub here : (group_at groups place).members ≡ members
  pub none_before : All (λ g. g.members ≢ members) (take place groups)
