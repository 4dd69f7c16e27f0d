-- What a term of either side is, and the laws that its calls rest on: on the left those of a kind,
-- on the right those of a kind turned round.
use Rattle.std.specs.Prelude.{◌≡◌, ℕ, Bool, List, length, ℤ, pos, neg_ℤ, ◌*ℤ◌, ◌≤ℤ◌, Some, map}
use Rattle.std.specs.List.{All}
use Rattle.sfm_spec.specs.Terms.{SetFunction, times, IsFamily, IsSubmodular, IsBase}
use Rattle.sfm_kind.specs.Meanings.{kind_places}
use Rattle.sfm_kind.specs.Kinds.{kind_value, kind_size, kind_start, kind_lean_value, kind_lean_calls, kind-family, kind-submodular, kind-bounded, kind-starts, kind-starts_small, kind-starts_times}
use Rattle.sfm_flip.specs.Flips.{flip_value, flip_size, flip_start, flip-family, flip-submodular, flip-bounded, flip-starts, flip-starts_small, flip-starts_times}
use Rattle.sfm_sides.specs.SideNotes.{left_fits, right_fits}
use Rattle.sfm_sides.specs.declared.side.Side.{Side}
use Rattle.sfm_sides.specs.declared.side.SideNote.{SideNote}
use Rattle.sfm_sides.specs.declared.side.Side.TheVariants.{Left, Right}

-- the places of the ground, by local place
abbrev pub side_places : Side → List ℕ
side_places (Left kind) = kind_places kind
side_places (Right kind) = kind_places kind

-- the value of a part
abbrev pub side_value : Side → SetFunction
side_value (Left kind) = kind_value kind
side_value (Right kind) = flip_value kind

-- a bound on the magnitude of each value
abbrev pub side_size : Side → ℤ
side_size (Left kind) = kind_size kind
side_size (Right kind) = flip_size kind

-- the first base
abbrev pub side_start : Side → ℤ → List ℤ
side_start (Left kind) q = kind_start kind q
side_start (Right kind) q = flip_start kind q

-- where the value of a part takes no memory and is always told
abbrev pub side_lean_value : Side → Type 0
side_lean_value (Left kind) = kind_lean_value kind
side_lean_value (Right kind) = ⊥

-- where first bases, tests of bases, rooms and reach take no memory and are always told
abbrev pub side_lean_calls : Side → Type 0
side_lean_calls (Left kind) = kind_lean_calls kind
side_lean_calls (Right kind) = ⊥

-- what a note keeps is true of a base
abbrev pub side_fits : Side → SideNote → ℤ → List ℤ → Type 0
side_fits (Left kind) note q x = left_fits kind note q x
side_fits (Right kind) note q x = right_fits kind note q x

pub side-family : (side : Side) → IsFamily (length (side_places side)) (side_value side)
side-family (Left kind) = kind-family kind
side-family (Right kind) = flip-family kind

pub side-submodular : (side : Side) → IsSubmodular (length (side_places side)) (side_value side)
side-submodular (Left kind) = kind-submodular kind
side-submodular (Right kind) = flip-submodular kind

pub side-bounded : (side : Side) (s : List Bool) (a : ℤ) → length s ≡ length (side_places side)
    → side_value side s ≡ Some a
    → (neg_ℤ (side_size side) ≤ℤ a) × (a ≤ℤ side_size side)
side-bounded (Left kind) = kind-bounded kind
side-bounded (Right kind) = flip-bounded kind

pub side-starts : (side : Side) (q : ℤ) → pos 1 ≤ℤ q
    → (length (side_start side q) ≡ length (side_places side))
    × IsBase (times q (side_value side)) (side_start side q)
side-starts (Left kind) = kind-starts kind
side-starts (Right kind) = flip-starts kind

pub side-starts_small : (side : Side) (q : ℤ) → pos 1 ≤ℤ q
    → All (λ a. (neg_ℤ ((pos 2 *ℤ q) *ℤ side_size side) ≤ℤ a)
    × (a ≤ℤ ((pos 2 *ℤ q) *ℤ side_size side))) (side_start side q)
side-starts_small (Left kind) = kind-starts_small kind
side-starts_small (Right kind) = flip-starts_small kind

pub side-starts_times : (side : Side) (q : ℤ)
    → side_start side q ≡ map (λ a. q *ℤ a) (side_start side (pos 1))
side-starts_times (Left kind) q = kind-starts_times kind q
side-starts_times (Right kind) q = flip-starts_times kind q
