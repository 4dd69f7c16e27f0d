-- What a term says of numbers that are listed or held: the greatest magnitude, and which are above a bar.
use Rattle.std.specs.Prelude.{List, [], ◌∷◌, ℤ, pos, nat_abs, ◌<ℤ◌, Option, Some, None}
use Rattle.std.specs.Int.{int_max}

-- the greatest magnitude
abbrev pub greatest : List ℤ → ℤ
greatest [] = pos 0
greatest (a ∷ values) = int_max (pos (nat_abs a)) (greatest values)

-- a is above the bar, if there is one
abbrev pub IsOver : Option ℤ → ℤ → Type 0
IsOver None a = Unit {0}
IsOver (Some bar) a = bar <ℤ a
