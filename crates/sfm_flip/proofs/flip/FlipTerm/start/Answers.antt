-- The entries of the term's first base are small enough for their signs to be turned.
use Rattle.std.proofs.Common.{arith, ◌*◌, ◌^◌, pos, ◌≤ℤ◌}
use Rattle.std.proofs.lemmas.Int.{ints}
use Rattle.sfm_kind.specs.Kinds.{kind_size, kind_start, kind-starts_small}
use Rattle.sfm_kind.proofs.Passed.{factor_kept}
use Rattle.sfm_flip.proofs.Turning.{starts-entries}
use Rattle.sfm_flip.proofs.flip.FlipTerm.start.Goals as goal

pub turn-requires : goal.turn-requires
turn-requires c =
    let s = c.self.inside.term in
    let q = c.args.q in
    let e = rw (factor_kept _ c.requires.factor) at c.in_ok-start.ensures.start in
    let i : kind_size s ≤ℤ pos (5 * 10 ^ 17) = c.self.invariant in
    rw e (starts-entries (kind_size s) q (kind_start s q) c.requires.factor (omega (arith, ints, i))
    (kind-starts_small s q c.requires.factor.low))
