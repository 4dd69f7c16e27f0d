use Rattle.std.proofs.Common.{List, get_or, ℤ, pos, ◌-ℤ◌, to_z, ap, arith, rules, FitsSigned}
use Rattle.std.proofs.lemmas.Int.{to_z-of_z}
use mir.Syntax.{w128}
use Rattle.sfm_cells.specs.Splits.{amount_at}
use Rattle.sfm_cells.specs.Left.{turned}
use Rattle.sfm_split.specs.Changes.{CanTurn}
use Rattle.sfm_split.specs.Lowers.{StandsBy}
use Rattle.sfm_cells.proofs.Written.{are_turned}
use Rattle.sfm_split.proofs.Lowering.{turned_same, turned_can, turning, next_turned}
use Rattle.sfm_split.proofs.lower.turn_side.Goals.{Then-totals-k, then-totals-k+in_ok-change_total, else-totals-k}
use Rattle.sfm_split.proofs.lower.turn_side.Goals as goal

pub loop-k-init : goal.loop-k-init
loop-k-init c = record { stands = λ others h. h; listed = c.requires.listed }

-- the next total can change
can : (c : Then-totals-k) (others : List ℤ)
    → let turn = c.args.turn.now in let cells = c.args.cells.now in let left = c.loop-k.left in
    StandsBy turn.side turn.before.now others cells.whos.items cells.slots.items c.args.y.now
    c.args.left.now.lacks.items c.args.left.now.rooms.items
    → CanTurn turn.side (turned c.loop-k.k turn.totals.now turn.before.now) others
    cells.whos.items cells.slots.items c.loop-k.y left.lacks.items left.rooms.items
    (record {
      k = c.loop-k.k;
      more = amount_at turn.totals.now c.loop-k.k -ℤ amount_at
          turn.before.now c.loop-k.k;
    })
can c others h =
    let turn = c.args.turn.now in
    let cells = c.args.cells.now in
    let left = c.loop-k.left in
    turned_can turn.side turn.totals.now turn.before.now others cells.whos.items
    cells.slots.items c.loop-k.y left.lacks.items left.rooms.items c.loop-k.k c.requires.same
    (c.loop-k.invariant.stands others h) (omega arith) c.requires.bounded

pub overflow_sub-more : goal.overflow_sub-more
overflow_sub-more c =
    let path = (goal.at.overflow_sub-more c).Then-totals-k in
    let turn = c.args.turn.now in
    let left = c.loop-k.left in
    let (others, h) = c.requires.stands in
    let ft : FitsSigned w128 (get_or turn.totals.now c.loop-k.k (pos 0)) = search rules in
    let fb : FitsSigned w128 (get_or turn.before.now c.loop-k.k (pos 0)) = search rules in
    simp to_z-of_z (turning turn.side (turned c.loop-k.k turn.totals.now turn.before.now) others
    c.args.cells.now.whos.items c.args.cells.now.slots.items c.loop-k.y left.lacks.items
    left.rooms.items _ (can path others h)).can.fits

pub change_total-requires : goal.change_total-requires
change_total-requires c =
    let path = (goal.at.change_total-requires c).Then-totals-k in
    let turn = c.args.turn.now in
    let left = c.loop-k.left in
    let (others, h) = c.requires.stands in
    let t : ℤ = get_or turn.totals.now c.loop-k.k (pos 0) in
    let b : ℤ = get_or turn.before.now c.loop-k.k (pos 0) in
    let ft : FitsSigned w128 t = search rules in
    let fb : FitsSigned w128 b = search rules in
    let r = can path others h in
    let fd : FitsSigned w128 (t -ℤ b) = (turning turn.side
    (turned c.loop-k.k turn.totals.now turn.before.now) others c.args.cells.now.whos.items
    c.args.cells.now.slots.items c.loop-k.y left.lacks.items left.rooms.items _ r).can.fits in
    record {
      can = (turned c.loop-k.k turn.totals.now turn.before.now, others, simp to_z-of_z r);
      listed = c.loop-k.invariant.listed;
    }

pub loop-k-preserved : goal.loop-k-preserved
loop-k-preserved c =
    let turn = c.args.turn.now in
    let cells = c.args.cells.now in
    let k = c.loop-k.k in
    let left = c.loop-k.left in
    let inv = c.loop-k.invariant in
    let t : ℤ = get_or turn.totals.now k (pos 0) in
    let b : ℤ = get_or turn.before.now k (pos 0) in
    let ft : FitsSigned w128 t = search rules in
    let fb : FitsSigned w128 b = search rules in
    elim c.if-totals-k.branch [
      | then-totals-k+in_ok-change_total w ↦ rw (w.left-is, w.y-is)
          (record {
            stands = λ others h.
                let r = turned_can turn.side turn.totals.now turn.before.now others
                cells.whos.items cells.slots.items c.loop-k.y left.lacks.items left.rooms.items k
                c.requires.same (inv.stands others h) (omega arith) c.requires.bounded in
                let fd : FitsSigned w128 (t -ℤ b) = (turning turn.side
                (turned k turn.totals.now turn.before.now) others cells.whos.items
                cells.slots.items c.loop-k.y left.lacks.items left.rooms.items _ r).can.fits in
                rw (← next_turned turn.side turn.totals.now turn.before.now others
                cells.whos.items cells.slots.items c.loop-k.y left.lacks.items left.rooms.items k
                c.requires.same (inv.stands others h))
                ((simp to_z-of_z at w.in_ok-change_total.ensures.stands)
                (turned k turn.totals.now turn.before.now) others r);
            listed = w.in_ok-change_total.ensures.listed;
          })
      | else-totals-k w ↦ (
          let same = simp to_z-of_z at (ap (to_z w128) w.if-totals-k.false) in
          rw (w.left-is, w.y-is) (record {
            stands = λ others h. turned_same turn.side turn.totals.now turn.before.now others
                cells.whos.items cells.slots.items c.loop-k.y left.lacks.items left.rooms.items k
                c.requires.same (inv.stands others h) same;
            listed = inv.listed;
          }))
    ]

pub returns-clause-stands : goal.returns-clause-stands
returns-clause-stands c = λ others h.
    rw ((are_turned c.loop-k.k c.args.turn.now.totals.now c.args.turn.now.before.now
    c.requires.same).all (omega arith)) at c.loop-k.invariant.stands others h
