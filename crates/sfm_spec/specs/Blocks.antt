-- The blocks that generate all minimisers: which places come and go together, and which pull which along.
-- Textbook: Fujishige, Submodular Functions and Optimization, section 3 (the distributive lattice of minimisers).
use Rattle.std.specs.Prelude.{◌≡◌, ◌≢◌, ◌↔◌, ◌⊎◌, ℕ, ◌+◌, ◌-◌, ◌<◌, ◌≤◌, Bool, List, [], length, slice_index_or, ℤ, sum_by, Contains}
use Rattle.std.specs.List.Sorted.{IsStrictlyIncreasing}
use Rattle.sfm_spec.specs.Sets.{Has, size}
use Rattle.sfm_spec.specs.Families.{Meaning, IsMinimiser, IsLeast}

-- every minimiser that has e has e' too
abbrev pub PullsAlong : List Meaning → ℕ → ℤ → List ℤ → ℕ → ℕ → Type 0
PullsAlong terms n q shift e e' = (s : List Bool) → IsMinimiser terms n q shift s → Has s e → Has s e'

-- some minimiser has e, and some has it not
pub record IsFree (terms : List Meaning) (n : ℕ) (q : ℤ) (shift : List ℤ) (e : ℕ) : Type 0 where
  pub is_in : (s : List Bool) × IsMinimiser terms n q shift s × Has s e
  pub is_out : (s : List Bool) × IsMinimiser terms n q shift s × (Has s e → ⊥)

-- places, and the numbers, from 1, of the blocks that they need
pub record Block : Type 0 where
  pub members : List Bool
  pub needs : List ℕ

-- what stands past the end of a list of blocks
abbrev pub no_block : Block
no_block = record { members = []; needs = [] }

-- the block number i, counted from 0
abbrev pub block_at : List Block → ℕ → Block
block_at blocks i = slice_index_or blocks i no_block

-- how many places are in block i and in all that it needs
abbrev pub size_with_needs : List Block → ℕ → ℕ
size_with_needs blocks i = size (block_at blocks i).members + sum_by (λ j. size (block_at blocks (j - 1)).members) (block_at blocks i).needs

-- e is the first place of s
pub record IsFirst (s : List Bool) (e : ℕ) : Type 0 where
  pub is_in : Has s e
  pub least : (e' : ℕ) → Has s e' → e ≤ e'

-- the block i comes before the block j: it has fewer places with all that it needs, or as many and an earlier first place
abbrev pub ComesBefore : List Block → ℕ → ℕ → Type 0
ComesBefore blocks i j = (size_with_needs blocks i < size_with_needs blocks j)
    ⊎ ((size_with_needs blocks i ≡ size_with_needs blocks j) × ((d e : ℕ) → IsFirst (block_at blocks i).members d → IsFirst (block_at blocks j).members e → d < e))

-- the blocks of the minimisers, with their needs, in order
pub record AreBlocks (terms : List Meaning) (n : ℕ) (q : ℤ) (shift : List ℤ) (blocks : List Block) : Type 0 where
  pub places : (i : ℕ) → i < length blocks → length (block_at blocks i).members ≡ n
  pub some : (i : ℕ) → i < length blocks → (e : ℕ) × Has (block_at blocks i).members e
  pub covers : (e : ℕ) → e < n → IsFree terms n q shift e ↔ ((i : ℕ) × (i < length blocks) × Has (block_at blocks i).members e)
  pub shared : (i d e : ℕ) → i < length blocks → d < n → e < n → Has (block_at blocks i).members d
      → Has (block_at blocks i).members e ↔ (PullsAlong terms n q shift d e × PullsAlong terms n q shift e d)
  pub needed : (i j d e : ℕ) → i < length blocks → j < length blocks → i ≢ j → Has (block_at blocks i).members d → Has (block_at blocks j).members e
      → Contains (block_at blocks i).needs (j + 1) ↔ PullsAlong terms n q shift d e
  pub numbered : (i j : ℕ) → i < length blocks → Contains (block_at blocks i).needs j → (1 ≤ j) × (j ≤ length blocks) × (j ≢ i + 1)
  pub ascending : (i : ℕ) → i < length blocks → IsStrictlyIncreasing (block_at blocks i).needs
  pub ordered : (i j : ℕ) → i < j → j < length blocks → ComesBefore blocks i j

-- a choice of blocks, with the number i or without it, that has with each block all that it needs
pub record IsClosedChoice (blocks : List Block) (chosen : List Bool) : Type 0 where
  pub blocks_told : length chosen ≡ length blocks
  pub closed : (i j : ℕ) → Has chosen i → Contains (block_at blocks i).needs (j + 1) → Has chosen j

-- the set s has the places of the least set and those of the members of the chosen blocks, and no others
abbrev pub IsUnionOf : List Bool → List Block → List Bool → List Bool → Type 0
IsUnionOf least blocks chosen s = (e : ℕ) → Has s e ↔ (Has least e ⊎ ((i : ℕ) × Has chosen i × Has (block_at blocks i).members e))

-- the minimisers are exactly the unions of the least one with the blocks of a closed choice
abbrev pub Generate : List Meaning → ℕ → ℤ → List ℤ → List Block → Type 0
Generate terms n q shift blocks = (least s : List Bool) → IsLeast terms n q shift least → length s ≡ n
    → IsMinimiser terms n q shift s ↔ ((chosen : List Bool) × IsClosedChoice blocks chosen × IsUnionOf least blocks chosen s)
