use Rattle.std.proofs.Common.{ℤ, pos, arith, FitsSigned}
use Rattle.std.proofs.lemmas.Int.{ints, to_z-of_z}
use mir.Syntax.{w128}
use Rattle.sfm_laminar.specs.Crossing.{group_at}
use Rattle.sfm_laminar.specs.Rooms.{slack_of}
use Rattle.sfm_laminar.proofs.Made.{made_more}
use Rattle.sfm_laminar.proofs.laminar.Laminar.slacks_of.Goals as goal

pub loop-i-preserved : goal.loop-i-preserved
loop-i-preserved c =
    let s = c.args.self.now in
    let fq : FitsSigned w128 c.args.at.now.q = omega (arith, ints, c.requires.factor) in
    let fs : FitsSigned w128 c.slack.result = record { sfits = c.slack.type_inv } in
    let inv = c.loop-i.invariant in
    let e = simp to_z-of_z at c.slack.ensures in
    rw c.in_ok-push.ensures.items
    (simp to_z-of_z (made_more ℤ (pos 0)
    (λ p. slack_of c.args.at.now.q s.w c.args.at.now.x.now (group_at s.groups p)) c.loop-i.i
    c.loop-i.slacks.items c.slack.result inv e))
