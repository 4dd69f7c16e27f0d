-- Terms at bases of theirs, within the bounds, and what is asked of them there.
use Rattle.std.specs.Prelude.{◌≡◌, ◌≢◌, ℕ, ◌<◌, ◌^◌, List, length, ℤ, pos, ◌≤ℤ◌}
use Rattle.std.specs.List.{All}
use Rattle.sfm_spec.specs.Bounds.{IsEntry, IsFactor}
use Rattle.sfm_spec.specs.Terms.{SetFunction, times, IsBase}
use Rattle.sfm_law.specs.Room.{IsWithinRoom}

-- x is a base of q times the term, and all numbers are within the bounds
pub record IsBased {X : Type 0} (places : X → List ℕ) (value : X → SetFunction) (size : X → ℤ)
    (term : X) (q : ℤ) (x : List ℤ) : Type 0 where
  pub factor : IsFactor q
  pub entries : length x ≡ length (places term)
  pub bounded : size term ≤ℤ pos (10 ^ 18)
  pub small : All IsEntry x
  pub base : IsBase (times q (value term)) x

-- two places of x
pub record IsPair (u v : ℕ) (x : List ℤ) : Type 0 where
  pub apart : u ≢ v
  pub from : u < length x
  pub onto : v < length x

-- u can be raised and v lowered by a
pub record CanSwap (f : SetFunction) (x : List ℤ) (u v : ℕ) (a : ℤ) : Type 0 where
  pub apart : u ≢ v
  pub from : u < length x
  pub onto : v < length x
  pub low : pos 0 ≤ℤ a
  pub high : a ≤ℤ pos (10 ^ 30)
  pub room : IsWithinRoom f x u v a
