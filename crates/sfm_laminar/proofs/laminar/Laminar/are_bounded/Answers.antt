use Rattle.std.proofs.Common.{◌<◌, length, pos, ◌≤ℤ◌, refl, arith, FitsSigned, below_more}
use Rattle.std.proofs.lemmas.Bool.{false≢true}
use Rattle.std.proofs.lemmas.Int.{ints, to_z-of_z}
use mir.Syntax.{w128}
use Rattle.sfm_laminar.specs.Crossing.{group_at}
use Rattle.sfm_laminar.specs.Rooms.{slack_of}
use Rattle.sfm_laminar.proofs.laminar.Laminar.are_bounded.Goals as goal

pub loop-i-preserved : goal.loop-i-preserved
loop-i-preserved c =
    let s = c.args.self.now in
    let fq : FitsSigned w128 c.args.q = c.ranges.q in
    let fr : FitsSigned w128 c.slack.result = record { sfits = c.slack.type_inv } in
    let made = simp to_z-of_z at c.slack.ensures in
    let t = simp to_z-of_z at c.if-slack-lt0.false in
    let low : pos 0 ≤ℤ c.slack.result = omega (arith, ints, t) in
    let before = simp to_z-of_z at c.loop-i.invariant in
    simp to_z-of_z
    (below_more (λ i. pos 0 ≤ℤ slack_of c.args.q s.w c.args.x.now (group_at s.groups i))
    c.loop-i.i before (rw made at low))

pub returns-then-slack-lt0 : goal.returns-then-slack-lt0
returns-then-slack-lt0 c =
    let s = c.args.self.now in
    let fq : FitsSigned w128 c.args.q = c.ranges.q in
    let fr : FitsSigned w128 c.slack.result = record { sfits = c.slack.type_inv } in
    let made = simp to_z-of_z at c.slack.ensures in
    let t = simp to_z-of_z at c.if-slack-lt0.true in
    let lt : c.loop-i.i < length s.groups = rw (← c.len-i-end.ensures) c.loop-i-test.true in (
      (λ e. absurd (false≢true e)),
      (λ h. let low = h c.loop-i.i lt in let least : pos 0 ≤ℤ c.slack.result = rw made
          low in absurd (omega (arith, ints, least, t))),
    )

pub returns : goal.returns
returns c =
    let fq : FitsSigned w128 c.args.q = c.ranges.q in
    let before = simp to_z-of_z at c.loop-i.invariant in
    ((λ e j l. before j (omega (arith, l, c.loop-i-test.false, c.len-i-end.ensures))), (λ h. refl))
