-- What the levels of some weights make together.
use Rattle.std.specs.Prelude.{ℕ, Bool, List, [], ◌∷◌, ℤ, pos, ◌+ℤ◌, ◌-ℤ◌, ◌*ℤ◌}
use Rattle.sfm_spec.specs.Sets.{intersection}
use Rattle.sfm_layers.specs.Weights.{at_least, next_level}

-- what each level is above the next one, times what g gives for it, added
abbrev pub by_levels : (ℤ → ℤ) → List ℤ → ℤ
by_levels g [] = pos 0
by_levels g (v ∷ levels) = ((v -ℤ next_level levels) *ℤ g v) +ℤ by_levels g levels

-- the ranks of the places of s of each level or more, weighed by the levels
abbrev pub layers_weight : (List Bool → ℕ) → List ℤ → List Bool → List ℤ → ℤ
layers_weight rank weights s levels =
    by_levels (λ v. pos (rank (intersection s (at_least v weights)))) levels
