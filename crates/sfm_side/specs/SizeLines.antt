-- The text of sizes as it is read: the sizes that are known are kept as numbers, one for each
-- element, 0 where it was not named; and the pairs of a line are put one after another.
use Rattle.std.specs.Prelude.{◌≡◌, ◌⊎◌, ℕ, ◌≤◌, ◌^◌, if◌then◌else◌, List, [], ◌∷◌, length, map, codes, set, slice_get, Option, Some, None, unwrap_or, MatchOption, ℤ, pos, ◌≤ℤ◌}
use Rattle.std.specs.Int.Signed.{le_z}
use Rattle.std.specs.List.{All}
use Rattle.sfm_lines.specs.declared.reason.Reason.{Reason}
use Rattle.sfm_lines.specs.Parts.{IsPairToken}
use Rattle.sfm_text.specs.Language.{IsFirstOf}
use Rattle.sfm_side.specs.Sizes.{IsSize, HasInSizes}
use Rattle.sfm_side.specs.Passes.{Passes}
use Rattle.sfm_side.specs.declared.passes.TokenTest.TheVariants.{Pair, PairSize, PairElement}

-- the size that a number stands for: none where it is below 1
abbrev pub size_at : ℤ → Option ℤ
size_at w = if le_z (pos 1) w then Some w else None

-- the sizes that are known
abbrev pub given_of : List ℤ → List (Option ℤ)
given_of kept = map size_at kept

-- what an element with that number counts: its size, or 1 where it was not named
abbrev pub count_of : ℤ → ℤ
count_of w = unwrap_or (size_at w) (pos 1)

-- what is kept of n elements: each number is from 0 to 1,000,000
pub record AreKept (n : ℕ) (kept : List ℤ) : Type 0 where
  pub places : length kept ≡ n
  pub each : All (λ w. (pos 0 ≤ℤ w) × (w ≤ℤ pos (10 ^ 6))) kept

-- the token is a pair of the name of the element e and the text of the size v
pub record IsSizePair (names : List (List ℕ)) (token : List ℕ) (e : ℕ) (v : ℤ) : Type 0 where
  pub pair : List ℕ × List ℕ
  pub cut : IsPairToken token pair
  pub element : slice_get names e ≡ Some pair.0
  pub size : IsSize pair.1 v

-- each pair is of an element that has no size yet, and gives it its own
abbrev pub Puts : List (List ℕ) → List (Option ℤ) → List (List ℕ) → List (Option ℤ) → Type 0
Puts names given [] after = after ≡ given
Puts names given (token ∷ tokens) after = (e : ℕ) × (v : ℤ) × IsSizePair names token e v
    × (slice_get given e ≡ Some None) × Puts names (set given e (Some v)) tokens after

-- one pair is of an element that has a size already
abbrev pub PutsTwice : List (List ℕ) → List (Option ℤ) → List (List ℕ) → Type 0
PutsTwice names given [] = ⊥
PutsTwice names given (token ∷ tokens) = (e : ℕ) × (v : ℤ) × IsSizePair names token e v
    × (((w : ℤ) × (slice_get given e ≡ Some (Some w)))
    ⊎ ((slice_get given e ≡ Some None) × PutsTwice names (set given e (Some v)) tokens))

-- the tokens are pairs of elements and sizes, at least one
pub record ArePairsGood (names rest : List (List ℕ)) : Type 0 where
  pub some : 1 ≤ length rest
  pub pairs : All (Passes names Pair) rest
  pub sizes : All (Passes names PairSize) rest
  pub elements : All (Passes names PairElement) rest

-- so they are, or a line of them has that reason first, whatever sizes are known
abbrev pub ArePairsTold : List (List ℕ) → List (List ℕ) → Option Reason → Type 0
ArePairsTold names rest result = MatchOption result (ArePairsGood names rest)
    (λ reason. (given : List (Option ℤ))
    → IsFirstOf (HasInSizes names given (codes "size" ∷ rest)) reason)
