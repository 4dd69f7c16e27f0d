-- What is left once so many are taken out, and its totals.
use Rattle.std.proofs.Common.{◌≡◌, ◌^◌, pos, ◌≤ℤ◌}
use Rattle.sfm_kind.specs.Instance.{support_of}
use Rattle.sfm_kind.specs.Limits.{total_size_of}
use Rattle.sfm_kind.proofs.Removed.{cut_out}
use Rattle.sfm_kind.proofs.instance.take_out_all.Given as goal

abbrev pub invariant-loop-taken : goal.invariant-loop-taken
invariant-loop-taken l =
    (l.terms.items ≡ cut_out l.initial.terms.items l.first l._taken)
    × (l.support ≡ support_of l.terms.items) × (l.total ≡ total_size_of l.terms.items)
    × (l.total ≤ℤ pos (10 ^ 18))
