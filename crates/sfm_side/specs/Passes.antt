-- What a token of a line beside an instance is tried for.
use Rattle.std.specs.Prelude.{ℕ, List, ℤ}
use Rattle.sfm_lines.specs.Parts.{IsPairToken}
use Rattle.sfm_lines.specs.ReadParts.{IsKnown}
use Rattle.sfm_side.specs.declared.passes.TokenTest.{TokenTest}
use Rattle.sfm_side.specs.declared.passes.TokenTest.TheVariants.{Pair, PairSize, PairElement, Element}
use Rattle.sfm_side.specs.Sizes.{IsSize}

-- the token passes the test, over a ground of these names
abbrev pub Passes : List (List ℕ) → TokenTest → List ℕ → Type 0
Passes names Pair token = (pair : List ℕ × List ℕ) × IsPairToken token pair
Passes names PairSize token = (pair : List ℕ × List ℕ) × IsPairToken token pair
    × ((value : ℤ) × IsSize pair.1 value)
Passes names PairElement token = (pair : List ℕ × List ℕ) × IsPairToken token pair
    × IsKnown names pair.0
Passes names Element token = IsKnown names token
