-- Good texts with the numbers of their lines.
use Rattle.std.specs.Prelude.{◌≡◌, ℕ, ◌<◌, List, slice_get, Some}
use Rattle.sfm_text.specs.Numbered.{AreNumbersOf}
use Rattle.sfm_due.specs.Due.{IsAsked, Question}

-- what a good text asks, the number of its ground line, and for each of its terms that of its line
pub record Lined : Type 0 where
  pub asked : Question
  pub ground_line : ℕ
  pub lines : List ℕ

-- the text asks this, on these lines
pub record IsLined (text : List ℕ) (side : Lined) : Type 0 where
  pub asked : IsAsked text side.asked
  pub numbered : AreNumbersOf text side.ground_line side.asked.instance.lines side.lines

-- the number of the first of the lines of whose places, counted from 0, this holds
pub record IsFirstLine (P : ℕ → Type 0) (lines : List ℕ) (line : ℕ) : Type 0 where
  pub i : ℕ
  pub line_is : slice_get lines i ≡ Some line
  pub holds : P i
  pub before : (j : ℕ) → j < i → P j → ⊥
