-- How far entries lie from 0, as walks move them.
use Rattle.std.specs.Prelude.{ℕ, List, ℤ, neg_ℤ, ◌+ℤ◌, ◌-ℤ◌, ◌≤ℤ◌}
use Rattle.std.specs.List.{All}
use Rattle.sfm_spec.specs.Families.{Meaning, rest_at, deficit}

-- a magnitude of at most b
pub record IsUpTo (b a : ℤ) : Type 0 where
  pub low : neg_ℤ b ≤ℤ a
  pub high : a ≤ℤ b

-- no entry lies farther from 0 than entries did before by more than the sum of min(z, 0) has risen
abbrev pub AreSpread : List Meaning → ℕ → List ℤ → List (List ℤ) → List (List ℤ) → Type 0
AreSpread terms n shift before after = (b : ℤ) → All (λ x. All (IsUpTo b) x) before
    → All (λ x. All (IsUpTo (b +ℤ (deficit n (rest_at terms after shift)
    -ℤ deficit n (rest_at terms before shift)))) x) after
