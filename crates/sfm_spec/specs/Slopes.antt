-- Numbers over numbers, in lowest terms and in order.
use Rattle.std.specs.Prelude.{◌≡◌, ℕ, ℤ, pos, ◌*ℤ◌, ◌≤ℤ◌, ◌<ℤ◌}

-- den is at least 1, and no number but 1 divides both
pub record IsLowest (num den : ℤ) : Type 0 where
  pub positive : pos 1 ≤ℤ den
  pub prime : (c : ℕ) (a b : ℤ) → (pos c *ℤ a) ≡ num → (pos c *ℤ b) ≡ den → c ≡ 1

-- the same slope
abbrev pub IsSameSlope : ℤ → ℤ → ℤ → ℤ → Type 0
IsSameSlope p q p' q' = (p *ℤ q') ≡ (p' *ℤ q)

-- p/q is less than p'/q'
abbrev pub IsLowerSlope : ℤ → ℤ → ℤ → ℤ → Type 0
IsLowerSlope p q p' q' = (p *ℤ q') <ℤ (p' *ℤ q)
