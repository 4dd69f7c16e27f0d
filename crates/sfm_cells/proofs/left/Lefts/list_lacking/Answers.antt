use Rattle.std.proofs.Common.{ℤ, length, pos, ◌≤ℤ◌, ap, arith, rules, FitsSigned}
use Rattle.std.proofs.lemmas.Int.{ints}
use Rattle.std.proofs.lemmas.List.{get_or_read}
use mir.Syntax.{w128}
use Rattle.sfm_cells.specs.Splits.{amount_at}
use Rattle.sfm_cells.proofs.Leaving.{listed_skip, listed_more}
use Rattle.sfm_cells.proofs.left.Lefts.list_lacking.Goals as goal
use Rattle.sfm_cells.proofs.left.Lefts.list_lacking.Goals.{then-index-gt0+in_ok-push, else-index-gt0}

pub loop-i-preserved : goal.loop-i-preserved
loop-i-preserved c =
    let i = c.loop-i.i in
    let at = c.loop-i.self in
    let inv = c.loop-i.invariant in
    let x : ℤ = c.index.result.now in
    let f : FitsSigned w128 x = search rules in
    let long = ap length inv.lacks in
    let ok = at.lacks.ok.0 in
    let first = c.args.self.now.lacks.ok.0 in
    let is = get_or_read at.lacks.items i x (omega (arith, long, ok, first)) c.index.ensures
    (pos 0) in
    elim c.if-index-gt0.branch [
      | then-index-gt0+in_ok-push w ↦ rw (w.self-is, w.in_ok-push.ensures.items)
          (record {
            lacks = inv.lacks;
            rooms = inv.rooms;
            listed = listed_more i at.lacks.items at.lacking.items inv.listed;
          })
      | else-index-gt0 w ↦ (
          let t = w.if-index-gt0.false in
          let none : amount_at at.lacks.items i ≤ℤ pos 0 = omega (arith, ints, t, is) in
          rw w.self-is (record {
            lacks = inv.lacks;
            rooms = inv.rooms;
            listed = listed_skip i at.lacks.items at.lacking.items none inv.listed;
          }))
    ]
