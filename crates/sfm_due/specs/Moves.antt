-- What one walk of a minimisation does to the bases.
use Rattle.std.specs.Prelude.{◌≡◌, ◌≢◌, ℕ, ◌≤◌, List, [], ◌∷◌, length, set, slice_get, Some, ℤ, pos, ◌≤ℤ◌, ◌<ℤ◌, neg_ℤ}
use Rattle.sfm_spec.specs.Terms.{times, IsBase, exchanged}
use Rattle.sfm_spec.specs.Families.{Meaning, rest_at}
use Rattle.sfm_spec.specs.Walks.{term_at, base_at}

-- a step of a walk: the number of a term, and two of its places, of which the first is raised and the second lowered
abbrev pub Step : Type 0
Step = ℕ × ℕ × ℕ

-- by a step between these places of the ground a can be moved: its term's base stays a base
abbrev pub CanMove : List Meaning → ℤ → List (List ℤ) → ℤ → ℕ → Step → ℕ → Type 0
CanMove terms q bases a from (i, u, v) to = (slice_get (term_at terms i).places u ≡ Some from) × (slice_get (term_at terms i).places v ≡ Some to) × (u ≢ v)
    × IsBase (times q (term_at terms i).value) (exchanged (base_at bases i) u v a)

-- a can be moved by each of the steps, which lead from one place to another
abbrev pub Leads : List Meaning → ℤ → List (List ℤ) → ℤ → ℕ → List Step → ℕ → Type 0
Leads terms q bases a from [] to = from ≡ to
Leads terms q bases a from (step ∷ steps) to = (mid : ℕ) × CanMove terms q bases a from step mid × Leads terms q bases a mid steps to

-- the bases with a moved by each step
abbrev pub moved_by : ℤ → List Step → List (List ℤ) → List (List ℤ)
moved_by a [] bases = bases
moved_by a ((i, u, v) ∷ steps) bases = set (moved_by a steps bases) i (exchanged (base_at (moved_by a steps bases) i) u v a)

-- a is moved along a walk from a place with z < 0 to one with z > 0, as its steps and both ends allow. The walk is a shortest one: none
-- from the same first place to one with z > 0, by which 1 can be moved, has fewer steps
pub record Moves (terms : List Meaning) (q : ℤ) (shift : List ℤ) (bases : List (List ℤ)) (a : ℤ) (after : List (List ℤ)) : Type 0 where
  pub first : ℕ
  pub steps : List Step
  pub last : ℕ
  pub some : pos 1 ≤ℤ a
  pub walk : Leads terms q bases a first steps last
  pub by_first : a ≤ℤ neg_ℤ (rest_at terms bases shift first)
  pub by_last : a ≤ℤ rest_at terms bases shift last
  pub fewest : (others : List Step) (end : ℕ) → Leads terms q bases (pos 1) first others end → pos 0 <ℤ rest_at terms bases shift end → length steps ≤ length others
  pub moved : after ≡ moved_by a steps bases
