-- Two instances of which the common vectors are asked for.
use Rattle.std.specs.Prelude.{◌≡◌, ◌+◌, ◌*◌, ◌≤◌, ◌^◌, List, ℤ, pos, ◌+ℤ◌, ◌*ℤ◌, ◌≤ℤ◌}
use Rattle.std.specs.List.{All}
use Rattle.sfm_kind.specs.declared.kind.Kind.{Kind}
use Rattle.sfm_kind.specs.declared.kind.Kind.TheVariants.{Need}
use Rattle.sfm_kind.specs.Instance.{InstanceData, support_of}
use Rattle.sfm_kind.specs.Limits.{total_size_of}

-- the term is a condition
abbrev pub IsNeed : Kind → Type 0
IsNeed (Need term) = Unit {0}
IsNeed kind = ⊥

-- no term is a condition, so that every set is allowed
abbrev pub HasNoNeed : List Kind → Type 0
HasNoNeed terms = All (λ term. IsNeed term → ⊥) terms

-- they are over one ground and have no conditions; and the terms of the left with those of the right, turned round, which doubles
-- their sizes, are within the bounds of one list of terms
pub record AreMeetable (left right : InstanceData) : Type 0 where
  pub same : left.names ≡ right.names
  pub left_free : HasNoNeed left.terms
  pub right_free : HasNoNeed right.terms
  pub places : support_of left.terms + support_of right.terms ≤ 16384
  pub sizes : (total_size_of left.terms +ℤ pos 2 *ℤ total_size_of right.terms) ≤ℤ pos (10 ^ 18)
