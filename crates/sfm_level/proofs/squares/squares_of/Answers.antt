use Rattle.std.proofs.Common.{◌≡◌, ℕ, ◌^◌, ◌+◌, ◌<◌, List, length, get_or, take, ℤ, pos, ◌+ℤ◌, ◌*ℤ◌, ◌≤ℤ◌, arith, FitsSigned, to_z}
use Rattle.std.proofs.lemmas.Int.{ints, to_z-of_z}
use mir.Syntax.{w128}
use Rattle.sfm_squares.specs.Level.{squares}
use Rattle.sfm_level.proofs.Bounds.{root-small, square-each, square-low, squares-low, squares-more, squares-part}
use Rattle.sfm_level.proofs.squares.squares_of.Goals as goal

-- a number, its square, and the squares up to it fit
fits : (z : List ℤ) (k : ℕ) → k < length z → squares z ≤ℤ pos (10 ^ 30)
    → let a = get_or z k (pos 0) in
    FitsSigned w128 a × FitsSigned w128 (a *ℤ a) × FitsSigned w128 (squares (take k z) +ℤ (a *ℤ a))
fits z k l r =
    let a = get_or z k (pos 0) in
    let each = square-each z k l in
    let low = square-low a in
    let root = root-small a (omega (arith, ints, each, r)) in
    let more = squares-more z k l in
    let part = squares-part (k + 1) z in
    let first = squares-low (take k z) in (
      omega (arith, ints, root.low, root.high),
      omega (arith, ints, each, low, r),
      omega (arith, ints, more, part, first, low, r),
    )

pub overflow_mul-sum : goal.overflow_mul-sum
overflow_mul-sum c =
    let (fa, fs, ft) = fits c.args.z.now c.loop-a.a-index c.loop-a-test.true c.requires in
    simp to_z-of_z fs

pub overflow_add-sum : goal.overflow_add-sum
overflow_add-sum c =
    let (fa, fs, ft) = fits c.args.z.now c.loop-a.a-index c.loop-a-test.true c.requires in
    let so_far : to_z w128 c.loop-a.sum-bits ≡ squares
    (take c.loop-a.a-index c.args.z.now) = c.loop-a.invariant in
    simp to_z-of_z (rw so_far ft)

pub loop-a-preserved : goal.loop-a-preserved
loop-a-preserved c =
    let z = c.args.z.now in
    let k = c.loop-a.a-index in
    let (fa, fs, ft) = fits z k c.loop-a-test.true c.requires in
    let so_far : to_z w128 c.loop-a.sum-bits ≡ squares (take k z) = c.loop-a.invariant in
    let more = squares-more z k c.loop-a-test.true in
    rw so_far (simp to_z-of_z (omega (arith, ints, more)))
