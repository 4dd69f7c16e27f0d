-- The set of the slope before, as the program keeps it.
use Rattle.std.specs.Prelude.{ℕ, zero, suc, Bool, List, map}
use Rattle.sfm_law.specs.declared.breaks.Break.{Break as Found}
use Rattle.sfm_spec.specs.Search.{mark_at}
use Rattle.sfm_cert.specs.Answer.{mark_of}
use Rattle.sfm_cert.specs.Solved.{break_of}

-- the empty set before the first slope, and behind it the set of the slope before
abbrev pub members_before : List Bool → List Found → ℕ → List Bool
members_before empty breaks zero = empty
members_before empty breaks (suc k) = (mark_at (map mark_of (map break_of breaks)) k).members
