-- Breakpoints where each element counts one.
use Rattle.std.proofs.Common.{ℕ, List, get_or, ℤ}
use Rattle.std.specs.List.{All}
use Rattle.sfm_spec.specs.Families.{Meaning}
use Rattle.sfm_spec.specs.Laws.{ones}
use Rattle.sfm_spec.proofs.Ones.{ones-shift, total-ones}
use Rattle.sfm_law.specs.declared.breaks.Break.{Break}
use Rattle.sfm_slope.specs.Marks.{HasBases, HasBasesBy}

-- bases that prove by these sizes prove at equal shifts
has_bases : (terms : List Meaning) (firsts : ℤ → List (List ℤ)) (n : ℕ) (b : Break)
    → HasBasesBy terms firsts n (ones n) b → HasBases terms firsts n b
has_bases terms firsts n b h = record {
  bases = h.bases;
  small = h.small;
  proves = rw (ones-shift n b.slope.num) at h.proves;
  reached = rw (ones-shift n b.slope.num) at h.reached;
  few = rw (total-ones n) at h.few;
}

pub all_have_bases : (terms : List Meaning) (firsts : ℤ → List (List ℤ)) (n : ℕ)
    (breaks : List Break)
    → All (HasBasesBy terms firsts n (ones n)) breaks → All (HasBases terms firsts n) breaks
all_have_bases terms firsts n breaks h k d l =
    has_bases terms firsts n (get_or breaks k d) (h k d l)
