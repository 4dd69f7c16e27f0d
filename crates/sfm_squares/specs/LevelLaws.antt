-- What tells a most level base by walks, and what a move along any shortest walk does.
-- Textbook: Fujishige, Submodular Functions and Optimization, sections 4 and 9.
use Rattle.std.specs.Prelude.{◌≡◌, ◌↔◌, ℕ, List, ◌∷◌, ◌++◌, nat_eq, ℤ, pos, ◌+ℤ◌, ◌-ℤ◌, ◌≤ℤ◌, if◌then◌else◌}
use Rattle.sfm_spec.specs.Families.{Meaning, AreBases, base_sum_at}
use Rattle.sfm_spec.specs.Walks.{Step, CanMove, IsWalk, IsWalkMove, last_of}
use Rattle.sfm_squares.specs.Level.{IsSumBase, IsSumOf, IsLevel}

-- a walk leads from a place to one at which the sum of the bases is larger by two or more
pub record Rises (terms : List Meaning) (bases : List (List ℤ)) (first : ℕ) (steps : List Step)
    : Type 0 where
  pub walk : IsWalk terms (pos 1) bases first steps
  pub rises : (base_sum_at terms bases first +ℤ pos 2)
      ≤ℤ base_sum_at terms bases (last_of first steps)

-- what bases of the terms add up to is a base of the sum, and a most level one exactly where no
-- walk rises so
pub record LevelLaws (terms : List Meaning) (n : ℕ) (bases : List (List ℤ)) : Type 0 where
  pub sum : (z : List ℤ) → IsSumOf terms n bases z → IsSumBase terms n z
  pub exact : (z : List ℤ) → IsSumOf terms n bases z
      → IsLevel terms n z ↔ ((first : ℕ) (steps : List Step) → Rises terms bases first steps → ⊥)

-- along a shortest walk to any of some last places, from its last step to its first, each step can
-- still move a after the steps behind it have moved; what there is afterwards are bases, and their
-- sum changes at the ends of the walk alone
pub record MoveLawsTo (terms : List Meaning) (q : ℤ) (before : List (List ℤ)) (first : ℕ)
    (steps : List Step) (a : ℤ) : Type 0 where
  pub in_order : (front back : List Step) (step : Step) (mid : List (List ℤ))
      → steps ≡ front ++ step ∷ back → IsWalkMove terms before step.to back a mid
      → CanMove terms q mid (last_of first front) step a
  pub bases : (after : List (List ℤ)) → IsWalkMove terms before first steps a after
      → AreBases q terms after
  pub ends : (after : List (List ℤ)) → IsWalkMove terms before first steps a after → (e : ℕ)
      → base_sum_at terms after e ≡ base_sum_at terms before e
      +ℤ ((if nat_eq first e then a else pos 0)
      -ℤ (if nat_eq (last_of first steps) e then a else pos 0))
