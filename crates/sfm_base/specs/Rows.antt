-- Rows that lie one behind the other in one list, told by where each ends.
use Rattle.std.specs.Prelude.{ℕ, List, [], ◌∷◌, ◌-◌, ◌≤◌, ◌≡◌, take, drop}

-- the rows of the numbers from a place on
abbrev pub rows_from : {A : Type 0} → ℕ → List ℕ → List A → List (List A)
rows_from start [] numbers = []
rows_from start (end ∷ ends) numbers = take (end - start) (drop start numbers) ∷ rows_from end ends
    numbers

-- each row ends no sooner than it begins, and the last one at the end of the numbers
abbrev pub AreEnds : ℕ → List ℕ → ℕ → Type 0
AreEnds start [] count = start ≡ count
AreEnds start (end ∷ ends) count = (start ≤ end) × AreEnds end ends count
