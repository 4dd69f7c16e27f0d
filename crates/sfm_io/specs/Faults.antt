-- Counts of faults. A count is kept in 64 bits and stands still at its last value.
use Rattle.std.specs.Prelude.{◌≡◌, ℕ, ◌+◌, ◌-◌, ◌^◌, ◌<◌, ◌⊎◌, min, List, Bool, nat_le}
use Rattle.std.specs.List.{list_all}

-- one more, up to the last value
abbrev pub counted : ℕ → ℕ
counted n = min (n + 1) (2 ^ 64 - 1)

-- the count of 64 bits rose. One that stands at its last value is taken as risen
abbrev pub Rose : ℕ → ℕ → Type 0
Rose before after = (before < after) ⊎ (after ≡ 2 ^ 64 - 1)

-- Calls that are counted: how many were made, how many faults there were, and the numbers of the calls that fail, from 1.
pub record CountedCalls : Type 0 where
  pub made : ℕ
  pub faults : ℕ
  pub failing : List ℕ

-- no listed call is still to come
abbrev pub are_past : List ℕ → ℕ → Bool
are_past failing made = list_all (λ k. nat_le k made) failing
