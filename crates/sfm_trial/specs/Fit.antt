-- What can be asked for bases.
use Rattle.std.specs.Prelude.{◌≡◌, ℕ, ◌^◌, List, length, ℤ, pos, ◌≤ℤ◌}
use Rattle.std.specs.List.{All}
use Rattle.sfm_spec.specs.Bounds.{IsEntry, IsFactor}

-- q is a factor, x has a small number for each place of the term, and the term is not too large to
-- be asked for bases
pub record IsFit {X : Type 0} (places : X → List ℕ) (size : X → ℤ) (term : X) (q : ℤ)
    (x : List ℤ) : Type 0 where
  pub factor : IsFactor q
  pub entries : length x ≡ length (places term)
  pub bounded : size term ≤ℤ pos (10 ^ 18)
  pub small : All IsEntry x
