-- The shape of each term line, and the parts that the tokens behind its word have. A kind with further parts brings a
-- field to the parts, which `plain_parts` fills for all lines without it.
use Rattle.std.specs.Prelude.{◌≡◌, ◌≢◌, ◌⊎◌, ℕ, ◌≤◌, take, drop, List, [], ◌∷◌, ◌++◌, length, map, codes}
use Rattle.std.specs.List.{All, AllZip, flat_map}
use Rattle.sfm_lines.specs.declared.word.RankKind.{RankKind}
use Rattle.sfm_lines.specs.declared.word.RankKind.TheVariants.{NoRank, UniformRank, LaminarRank, GraphicRank, TransversalRank}
use Rattle.sfm_lines.specs.Lines.{pieces_of}

-- the texts that stand in the places of numbers, and those that stand in the places of elements; which rank a line means,
-- the names of each of its groups, and the labels of each element: the two ends of an edge, or the slots of an entry
pub record LineParts : Type 0 where
  pub numbers : List (List ℕ)
  pub elements : List (List ℕ)
  pub rank : RankKind
  pub groups : List (List (List ℕ))
  pub labels : List (List (List ℕ))

-- numbers and elements alone
abbrev pub plain_parts : List (List ℕ) → List (List ℕ) → LineParts
plain_parts numbers elements = record { numbers = numbers; elements = elements; rank = NoRank; groups = []; labels = [] }

-- a colon or a semicolon alone
abbrev pub IsSeparator : List ℕ → Type 0
IsSeparator token = (token ≡ codes ":") ⊎ (token ≡ codes ";")

-- no token is a separator
abbrev pub HaveNoSeparator : List (List ℕ) → Type 0
HaveNoSeparator tokens = All (λ token. IsSeparator token → ⊥) tokens

-- the token has exactly one byte b, and is cut there
pub record IsCutAt (b : ℕ) (token before behind : List ℕ) : Type 0 where
  pub cut : token ≡ before ++ b ∷ behind
  pub none_before : All (λ c. c ≢ b) before
  pub none_behind : All (λ c. c ≢ b) behind

-- a token `name:number`, which has exactly one colon and is not a colon alone
pub record IsPairToken (token : List ℕ) (pair : List ℕ × List ℕ) : Type 0 where
  pub cut : IsCutAt 58 token pair.0 pair.1
  pub more : token ≢ codes ":"

-- at least one pair
pub record IsWeightLine (tokens : List (List ℕ)) (parts : LineParts) : Type 0 where
  pub pairs : List (List ℕ × List ℕ)
  pub some : 1 ≤ length tokens
  pub each : AllZip IsPairToken tokens pairs
  pub parts_are : parts ≡ plain_parts (map (λ pair. pair.1) pairs) (map (λ pair. pair.0) pairs)

-- no separator; so many numbers, and then elements
pub record IsSplitAt (count : ℕ) (tokens : List (List ℕ)) (parts : LineParts) : Type 0 where
  pub unmarked : HaveNoSeparator tokens
  pub parts_are : parts ≡ plain_parts (take count tokens) (drop count tokens)

-- tokens before and behind the one colon alone, and no semicolon alone
pub record IsCutAtColon (tokens before behind : List (List ℕ)) : Type 0 where
  pub cut : tokens ≡ before ++ codes ":" ∷ behind
  pub unmarked_before : HaveNoSeparator before
  pub unmarked_behind : HaveNoSeparator behind

-- numbers, a colon, and elements, in such counts
abbrev pub IsColonLine : (ℕ → ℕ → Type 0) → List (List ℕ) → LineParts → Type 0
IsColonLine AreCounts tokens parts = (numbers : List (List ℕ)) × (elements : List (List ℕ)) × IsCutAtColon tokens numbers elements × AreCounts (length numbers) (length elements) × (parts ≡ plain_parts numbers elements)

-- a number, the word `uniform`, a cap, a colon, and at least one element
pub record IsUniformLine (tokens : List (List ℕ)) (parts : LineParts) : Type 0 where
  pub number : List ℕ
  pub cap : List ℕ
  pub elements : List (List ℕ)
  pub cut : IsCutAtColon tokens (number ∷ codes "uniform" ∷ cap ∷ []) elements
  pub some : 1 ≤ length elements
  pub parts_are : parts ≡ record { numbers = number ∷ cap ∷ []; elements = elements; rank = UniformRank; groups = []; labels = [] }

-- a number, the word of the rank, a colon, and what stands behind it
pub record IsRankHead (word : List ℕ) (tokens : List (List ℕ)) (number : List ℕ) (behind : List (List ℕ)) : Type 0 where
  pub tokens_are : tokens ≡ number ∷ word ∷ codes ":" ∷ behind
  pub no_separator : IsSeparator number → ⊥

-- behind the colon at least one element, and for each group a semicolon, its cap and at least one name
pub record IsLaminarLine (tokens : List (List ℕ)) (parts : LineParts) : Type 0 where
  pub number : List ℕ
  pub elements : List (List ℕ)
  pub groups : List (List ℕ × List (List ℕ))
  pub head : IsRankHead (codes "laminar") tokens number (elements ++ flat_map (λ group. codes ";" ∷ group.0 ∷ group.1) groups)
  pub some : 1 ≤ length elements
  pub unmarked : HaveNoSeparator elements
  pub each : All (λ group. (1 ≤ length group.1) × HaveNoSeparator (group.0 ∷ group.1)) groups
  pub parts_are : parts ≡ record { numbers = number ∷ map (λ group. group.0) groups; elements = elements; rank = LaminarRank; groups = map (λ group. group.1) groups; labels = [] }

-- the text of the labels of an element: two vertices with a `-` between them, or slots between commas
abbrev pub AreLabelsOf : RankKind → List ℕ → List (List ℕ) → Type 0
AreLabelsOf GraphicRank text labels = (tail : List ℕ) × (head : List ℕ) × IsCutAt 45 text tail head × (labels ≡ tail ∷ head ∷ [])
AreLabelsOf TransversalRank text labels = labels ≡ pieces_of 44 text
AreLabelsOf _ text labels = ⊥

-- a token `name=labels`, which has exactly one `=`, in the line of that rank
pub record IsLabelToken (rank : RankKind) (token : List ℕ) (entry : List ℕ × List (List ℕ)) : Type 0 where
  pub behind : List ℕ
  pub named : IsCutAt 61 token entry.0 behind
  pub labels : AreLabelsOf rank behind entry.1

-- behind the colon at least one element with its labels
pub record IsLabelledLine (rank : RankKind) (word : List ℕ) (tokens : List (List ℕ)) (parts : LineParts) : Type 0 where
  pub number : List ℕ
  pub behind : List (List ℕ)
  pub entries : List (List ℕ × List (List ℕ))
  pub head : IsRankHead word tokens number behind
  pub some : 1 ≤ length behind
  pub each : AllZip (IsLabelToken rank) behind entries
  pub parts_are : parts ≡ record { numbers = number ∷ []; elements = map (λ entry. entry.0) entries; rank = rank; groups = []; labels = map (λ entry. entry.1) entries }

-- a line of one of the ranks: of `uniform` or `laminar`, or a number, the word `graphic` or `transversal`, a colon, and edges or
-- entries
abbrev pub IsRankLine : List (List ℕ) → LineParts → Type 0
IsRankLine tokens parts = IsUniformLine tokens parts ⊎ IsLaminarLine tokens parts ⊎ IsLabelledLine GraphicRank (codes "graphic") tokens parts ⊎ IsLabelledLine TransversalRank (codes "transversal") tokens parts
