-- A step of a walk, as it is kept.
use Rattle.std.specs.Prelude.{ℕ}
use Rattle.sfm_spec.specs.Walks.{Step}

-- the place at which it ends, and its term
abbrev pub step_of : ℕ × ℕ → Step
step_of pair = record { to = pair.0; term = pair.1 }
