use Rattle.std.proofs.Common.{ℕ, ◌<◌, length, get_or, pos, ℤ, ◌+ℤ◌, ◌-ℤ◌, arith, FitsSigned}
use Rattle.std.proofs.lemmas.Int.{to_z-of_z}
use mir.Syntax.{w128}
use Rattle.sfm_laminar.specs.Crossing.{group_at}
use Rattle.sfm_laminar.specs.Slacks.{share_of}
use Rattle.sfm_laminar.proofs.Fits.{bound_fits}
use Rattle.sfm_laminar.proofs.Slacking.{still_small, written_more}
use Rattle.sfm_laminar.proofs.laminar.Laminar.move_slacks.Goals as goal

pub moved_slack-requires-clause-small : goal.moved_slack-requires-clause-small
moved_slack-requires-clause-small c =
    let inv = c.loop-i.invariant in
    let here = still_small c.args.slacks.now c.loop-i.slacks c.loop-i.i
    (omega (arith, c.loop-i-test.true, inv.places)) inv.rest c.requires.small in
    let fh : FitsSigned w128 (get_or c.loop-i.slacks c.loop-i.i (pos 0)) = bound_fits _ here in
    simp to_z-of_z here

pub loop-i-preserved : goal.loop-i-preserved
loop-i-preserved c =
    let s = c.args.self.now in
    let old = c.args.slacks.now in
    let i = c.loop-i.i in
    let lt : i < length old = omega (arith, c.loop-i-test.true, c.loop-i.invariant.places) in
    let fh : FitsSigned w128 (get_or c.loop-i.slacks i (pos 0)) = bound_fits _
    (still_small old c.loop-i.slacks i lt c.loop-i.invariant.rest c.requires.small) in
    let fr : FitsSigned w128 c.moved_slack.result = record { sfits = c.moved_slack.type_inv } in
    let inv = c.loop-i.invariant in
    let e = rw (inv.rest i (omega arith)) at (simp to_z-of_z at c.moved_slack.ensures) in
    let to : ℕ → ℤ = λ i. (get_or old i (pos 0) -ℤ share_of (length s.places) (group_at s.groups i)
    c.args.swap.now.u c.args.swap.now.a) +ℤ share_of (length s.places) (group_at s.groups i)
    c.args.swap.now.v c.args.swap.now.a in
    simp to_z-of_z (written_more to old c.loop-i.slacks i c.moved_slack.result inv.places lt
    inv.done inv.rest e)
