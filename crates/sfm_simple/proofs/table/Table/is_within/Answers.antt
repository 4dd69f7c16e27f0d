use Rattle.std.proofs.Common.{◌<◌, length, pos, ◌≤ℤ◌, refl, arith, FitsSigned, below_more}
use Rattle.std.proofs.lemmas.Bool.{false≢true}
use Rattle.std.proofs.lemmas.Int.{ints, to_z-of_z}
use mir.Syntax.{w128}
use Rattle.sfm_simple.specs.TableLaws.{slack_of}
use Rattle.sfm_simple.proofs.table.Table.is_within.Goals as goal

pub loop-s-preserved : goal.loop-s-preserved
loop-s-preserved c =
    let fq : FitsSigned w128 c.args.q = c.ranges.q in
    let fr : FitsSigned w128 c.slack.result = record { sfits = c.slack.type_inv } in
    let made = simp to_z-of_z at c.slack.ensures in
    let t = simp to_z-of_z at c.if-slack-lt0.false in
    let low : pos 0 ≤ℤ c.slack.result = omega (arith, ints, t) in
    let before = simp to_z-of_z at c.loop-s.invariant in
    simp to_z-of_z
    (below_more (λ s. pos 0 ≤ℤ slack_of c.args.q c.args.self.now.values c.args.x.now s)
    c.loop-s.s before (rw made at low))

pub returns-then-slack-lt0 : goal.returns-then-slack-lt0
returns-then-slack-lt0 c =
    let fq : FitsSigned w128 c.args.q = c.ranges.q in
    let fr : FitsSigned w128 c.slack.result = record { sfits = c.slack.type_inv } in
    let made = simp to_z-of_z at c.slack.ensures in
    let t = simp to_z-of_z at c.if-slack-lt0.true in
    let lt : c.loop-s.s < length c.args.self.now.values = rw (← c.count-s-end.ensures)
    c.loop-s-test.true in (
      (λ e. absurd (false≢true e)),
      (λ h. let low = h c.loop-s.s lt in let least : pos 0 ≤ℤ c.slack.result = rw made
          low in absurd (omega (arith, ints, least, t))),
    )

pub returns : goal.returns
returns c =
    let fq : FitsSigned w128 c.args.q = c.ranges.q in
    let before = simp to_z-of_z at c.loop-s.invariant in (
      (λ e n l. before n (omega (arith, l, c.loop-s-test.false, c.count-s-end.ensures))),
      (λ h. refl),
    )
