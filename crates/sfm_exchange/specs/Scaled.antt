-- Multiples of bases.
use Rattle.std.specs.Prelude.{List, map, ℤ, ◌*ℤ◌}

-- q times each entry
abbrev pub row_times : ℤ → List ℤ → List ℤ
row_times q x = map (λ a. q *ℤ a) x

-- q times each entry of each row
abbrev pub rows_times : ℤ → List (List ℤ) → List (List ℤ)
rows_times q rows = map (row_times q) rows
