-- What z is for a search that leads from one place to any of some others.
use Rattle.std.specs.Prelude.{ℕ, Bool, List, map, slice_set, ℤ, pos, neg_ℤ, if◌then◌else◌}

-- 1 at the places of the set, -1 at the place from, and 0 elsewhere
abbrev pub marks_of : List Bool → ℕ → List ℤ
marks_of to from = slice_set (map (λ b. if b then pos 1 else pos 0) to) from (neg_ℤ (pos 1))
