-- What is told of two sums, and what makes it true: bases of the terms of both whose smaller sums add up to the least split.
-- Textbook: Schrijver, Combinatorial Optimization, section 46.
use Rattle.std.specs.Prelude.{◌≡◌, ℕ, ◌<◌, Bool, List, length, slice_index_or, ℤ, pos}
use Rattle.std.specs.Int.{int_min}
use Rattle.sfm_spec.specs.Sets.{sum_over, whole_set}
use Rattle.sfm_spec.specs.Families.{Meaning, AreBases, base_sum_at}
use Rattle.sfm_meet.specs.Common.{IsLeastSplit}

-- the least value of a split and the least set that has it, a common vector, and a base for each term of the one sum and of the other
pub record MetAnswer : Type 0 where
  pub value : ℤ
  pub members : List Bool
  pub common : List ℤ
  pub left : List (List ℤ)
  pub right : List (List ℤ)

-- bases of the terms; the common vector has the smaller of their two sums at each place, and adds up to the least value of a split
pub record IsProvedMet (left right : List Meaning) (n : ℕ) (a : MetAnswer) : Type 0 where
  pub left_bases : AreBases (pos 1) left a.left
  pub right_bases : AreBases (pos 1) right a.right
  pub places : length a.common ≡ n
  pub smaller : (e : ℕ) → e < n
      → slice_index_or a.common e (pos 0) ≡ int_min (base_sum_at left a.left e) (base_sum_at right a.right e)
  pub total : (t : List Bool) × IsLeastSplit left right n (sum_over (whole_set n) a.common) t

-- all of it is true, with bases that prove it
pub record IsTrueMet (left right : List Meaning) (n : ℕ) (a : MetAnswer) : Type 0 where
  pub proved : IsProvedMet left right n a
  pub split : IsLeastSplit left right n a.value a.members
