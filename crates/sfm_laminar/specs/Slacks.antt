-- What is kept beside a base: what each group lacks, and the places that have something.
use Rattle.std.specs.Prelude.{◌≡◌, ◌↔◌, ℕ, ◌<◌, Bool, List, length, slice_index_or, if◌then◌else◌, false, ℤ, pos, ◌≤ℤ◌}
use Rattle.sfm_spec.specs.Sets.{Has}
use Rattle.sfm_spec.specs.Kinds.{Group}
use Rattle.sfm_laminar.specs.Crossing.{group_at}
use Rattle.sfm_laminar.specs.Masks.{mask}
use Rattle.sfm_laminar.specs.Rooms.{slack_of}
use Rattle.sfm_laminar.specs.declared.slacks.Slacks.{Slacks}

-- what each group lacks
pub record AreSlacks (q w : ℤ) (groups : List Group) (x slacks : List ℤ) : Type 0 where
  pub places : length slacks ≡ length groups
  pub each : (i : ℕ) → i < length groups
      → slice_index_or slacks i (pos 0) ≡ slack_of q w x (group_at groups i)

-- the places that have something
pub record IsSupport (x : List ℤ) (s : List Bool) : Type 0 where
  pub places : length s ≡ length x
  pub exact : (v : ℕ) → v < length x → Has s v ↔ (pos 1 ≤ℤ slice_index_or x v (pos 0))

-- what a group of k places has of an amount at a place: all of it, or nothing
abbrev pub share_of : ℕ → Group → ℕ → ℤ → ℤ
share_of k g v a = if slice_index_or (mask k g.members) v false then a else pos 0

-- what is kept beside a base of q times a laminar term
abbrev pub laminar_fits : ℤ → List Group → Slacks → ℤ → List ℤ → Type 0
laminar_fits w groups note q x = AreSlacks q w groups x note.slacks.items × IsSupport x note.support
