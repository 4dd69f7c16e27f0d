-- The number of a set with a place more.
use Rattle.std.proofs.Common.{◌≡◌, ℕ, ◌+◌, ◌<◌, ◌^◌, Bool, true, false, List, length, get_or, set, ap, ◌∙◌, arith, length-set}
use Rattle.sfm_spec.specs.Kinds.{binary}
use Rattle.sfm_simple.specs.Subsets.{members, length-members, binary-lt, binary-members, binary-set, members-binary}

pub binary_below : (k : ℕ) (s : List Bool) → length s ≡ k → binary s < 2 ^ k
binary_below k s same = rw (← same) (binary-lt s)

module _ (k n a : ℕ) (h : n < 2 ^ k) (lt : a < k) (out : get_or (members k n) a false ≡ false) where
  with_place : binary (set (members k n) a true) ≡ n + 2 ^ a
  with_place = binary-set (members k n) a (omega (arith, length-members k n, lt)) out
      ∙ ap (λ z. z + 2 ^ a) (binary-members k n h)

  sized : length (set (members k n) a true) ≡ k
  sized = length-set (members k n) a true ∙ length-members k n

  pub place_below : n + 2 ^ a < 2 ^ k
  place_below = rw sized at (rw with_place at (binary-lt (set (members k n) a true)))

  pub place_members : members k (n + 2 ^ a) ≡ set (members k n) a true
  place_members = rw sized at (rw with_place at (members-binary (set (members k n) a true)))
