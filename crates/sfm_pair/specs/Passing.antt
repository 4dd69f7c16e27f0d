-- At which line of some terms a condition stands first, and at which there is too much beside
-- others.
use Rattle.std.specs.Prelude.{◌≡◌, ◌⊎◌, ℕ, ◌+◌, ◌*◌, ◌<◌, ◌^◌, List, take, slice_get, Some, ℤ, pos, ◌+ℤ◌, ◌*ℤ◌, ◌<ℤ◌}
use Rattle.sfm_kind.specs.declared.kind.Kind.{Kind}
use Rattle.sfm_kind.specs.Instance.{support_of}
use Rattle.sfm_kind.specs.Limits.{total_size_of}
use Rattle.sfm_meet.specs.Meetable.{IsNeed}
use Rattle.sfm_due.specs.Lined.{IsFirstLine}

-- the line of the first condition
abbrev pub IsFirstNeed : List Kind → List ℕ → ℕ → Type 0
IsFirstNeed terms lines line =
    IsFirstLine (λ i. (term : Kind) × (slice_get terms i ≡ Some term) × IsNeed term) lines line

-- up to the term of a line there are too many places beside others, or too much size, which counts
-- twice
abbrev pub IsOver : ℕ → ℤ → List Kind → ℕ → Type 0
IsOver places size terms i = (16384 < places + support_of (take (i + 1) terms))
    ⊎ (pos (10 ^ 18) <ℤ (size +ℤ pos 2 *ℤ total_size_of (take (i + 1) terms)))

-- the first such line
abbrev pub PassesTogether : ℕ → ℤ → List Kind → List ℕ → ℕ → Type 0
PassesTogether places size terms lines line = IsFirstLine (IsOver places size terms) lines line
