-- What is left of totals once the amounts of their numbers are taken off, which demands lack
-- something then, and how totals and what is left of them change.
use Rattle.std.specs.Prelude.{◌≡◌, ℕ, ◌<◌, ◌^◌, List, ◌++◌, length, take, drop, ℤ, pos, ◌+ℤ◌, ◌-ℤ◌, ◌≤ℤ◌, ◌<ℤ◌}
use Rattle.sfm_cells.specs.Splits.{sum_at, amount_at}
use Rattle.sfm_cells.specs.Cells.{label_at}

-- what is left of each total once all amounts of its number are taken off
pub record AreLeft (totals : List ℤ) (labels : List ℕ) (y left : List ℤ) : Type 0 where
  pub places : length left ≡ length totals
  pub each : (k : ℕ) → k < length totals
      → amount_at left k ≡ (amount_at totals k -ℤ sum_at k labels y)

-- a list of demands below n that has each of these that lacks something; others may stand in it too
pub record ListsBelow (n : ℕ) (lacks : List ℤ) (list : List ℕ) : Type 0 where
  pub below : (k : ℕ) → k < length list → label_at list k < n
  pub all : (i : ℕ) → i < n → pos 0 <ℤ amount_at lacks i → (k : ℕ) × (k < length list)
      × (label_at list k ≡ i)

-- the same of all demands
abbrev pub ListsLacking : List ℤ → List ℕ → Type 0
ListsLacking lacks list = ListsBelow (length lacks) lacks list

-- what is left of the total k can change by a
pub record CanPut (left : List ℤ) (k : ℕ) (a : ℤ) : Type 0 where
  pub place : k < length left
  pub low : pos 0 ≤ℤ (amount_at left k +ℤ a +ℤ pos (10 ^ 32))
  pub high : (amount_at left k +ℤ a) ≤ℤ pos (10 ^ 32)

-- totals of which the first k are new
abbrev pub turned : ℕ → List ℤ → List ℤ → List ℤ
turned k totals before = take k totals ++ drop k before
