use Rattle.std.proofs.Common.{◌≡◌, ◌<◌, length, get_or, pos, ℤ, ◌-ℤ◌, ◌≤ℤ◌, rules, arith, FitsSigned}
use Rattle.std.proofs.lemmas.Int.{ints, to_z-of_z}
use Rattle.std.proofs.lemmas.List.{get_or_read}
use mir.Syntax.{w128}
use Rattle.sfm_cells.specs.Splits.{amount_at}
use Rattle.sfm_cells.specs.Cells.{label_at}
use Rattle.sfm_cells.proofs.Leaving.{next_fits, left_more, left_none, left_all}
use Rattle.sfm_cells.proofs.left.left_of.Goals.{After-index_mut}
use Rattle.sfm_cells.proofs.left.left_of.Goals as goal

-- what is left of the total of the cell, which is no less than the amount on the cell
left : (c : After-index_mut) → (c.index_mut.result.now ≡ amount_at c.loop-e.left.items
    (label_at c.args.labels.now c.loop-e.e))
    × (amount_at c.args.y.now c.loop-e.e ≤ℤ c.index_mut.result.now)
left c =
    let labels = c.args.labels.now in
    let y = c.args.y.now in
    let e = c.loop-e.e in
    let inv = c.loop-e.invariant in
    let lt : e < length labels = omega arith in
    let below = c.requires.below e lt in
    let places = inv.places in
    let n = next_fits c.args.totals.now labels y c.loop-e.left.items e c.requires.same
    c.requires.amounts lt below (c.requires.within (label_at labels e) below) inv in
    let x : ℤ = c.index_mut.result.now in
    let v = get_or_read c.loop-e.left.items (label_at labels e) x (omega (arith, places, below))
    c.index_mut.ensures.value (pos 0) in
    (v, omega (arith, ints, n, v))

pub overflow_sub-index_mut : goal.overflow_sub-index_mut
overflow_sub-index_mut c =
    let (v, n) = left (goal.at.overflow_sub-index_mut c).After-index_mut in
    let fx : FitsSigned w128 c.index_mut.result.now = search rules in
    let fb : FitsSigned w128 (get_or c.args.y.now c.loop-e.e (pos 0)) = search rules in
    let low = c.requires.amounts c.loop-e.e in
    omega (arith, ints, n, low)

pub loop-e-init : goal.loop-e-init
loop-e-init c = rw c.in_ok-left.ensures.items
    (left_none c.args.totals.now c.args.labels.now c.args.y.now)

pub loop-e-preserved : goal.loop-e-preserved
loop-e-preserved c =
    let (v, n) = left (goal.at.loop-e-preserved c).After-index_mut in
    let labels = c.args.labels.now in
    let y = c.args.y.now in
    let e = c.loop-e.e in
    let lt : e < length labels = omega arith in
    let x : ℤ = c.index_mut.result.now in
    let b : ℤ = get_or y e (pos 0) in
    let fx : FitsSigned w128 x = search rules in
    let fb : FitsSigned w128 b = search rules in
    let low = c.requires.amounts e in
    let fd : FitsSigned w128 (x -ℤ b) = omega (arith, ints, n, low) in
    simp to_z-of_z (left_more c.args.totals.now labels y c.loop-e.left.items e x v c.requires.same
    lt (c.requires.below e lt) c.loop-e.invariant)

pub returns : goal.returns
returns c = left_all c.args.totals.now c.args.labels.now c.args.y.now c.loop-e.left.items c.loop-e.e
    (omega arith) c.loop-e.invariant
