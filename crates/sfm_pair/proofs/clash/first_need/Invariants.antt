use Rattle.std.proofs.Common.{ℕ, ◌<◌, get_or}
use Rattle.sfm_kind.specs.declared.kind.Kind.{Kind}
use Rattle.sfm_meet.specs.Meetable.{IsNeed}
use Rattle.sfm_pair.proofs.clash.first_need.Given as goal

-- no term so far is a condition
abbrev pub invariant-loop-i : goal.invariant-loop-i
invariant-loop-i l = (k : ℕ) (d : Kind) → k < l.i → IsNeed (get_or l.terms k d) → ⊥
