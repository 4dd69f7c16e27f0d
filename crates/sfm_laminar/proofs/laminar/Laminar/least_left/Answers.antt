use Rattle.std.proofs.Common.{◌≡◌, ◌∙◌, arith, FitsSigned, to_z}
use Rattle.std.proofs.lemmas.Bool.{both_ways}
use Rattle.std.proofs.lemmas.Int.{to_z-of_z}
use mir.Syntax.{w128}
use Rattle.sfm_laminar.proofs.Holders.{holder_at}
use Rattle.sfm_laminar.proofs.Leasts.{least_begin, least_with, least_without, least_all}
use Rattle.sfm_laminar.proofs.laminar.Laminar.least_left.Goals as goal
use Rattle.sfm_laminar.proofs.laminar.Laminar.least_left.Goals.{then-not-has, else-not-has}

pub loop-i-init : goal.loop-i-init
loop-i-init c =
    let fl : FitsSigned w128 c.least_entry-least.result = record {
      sfits = c.least_entry-least.type_inv;
    } in
    simp to_z-of_z (least_begin _ _ _ _ _ _ _ _ c.least_entry-least.ensures)

pub loop-i-preserved : goal.loop-i-preserved
loop-i-preserved c =
    let s = c.args.self.now in
    let q = c.args.at.now.q in
    let x = c.args.at.now.x.now in
    let u = c.args.u in
    let v = c.args.v in
    let es = c.holders-holders.result.now in
    let i = c.loop-i.i-index in
    let inv = c.loop-i.invariant in
    let here = holder_at s.groups es u i c.holders-holders.ensures.exact c.loop-i-test.true in
    elim c.if-not-has.branch [
      | then-not-has w ↦
          (let fs : FitsSigned w128 w.slack_by.result = record { sfits = w.slack_by.type_inv } in
          let fm : FitsSigned w128 w.min-least.result = record { sfits = w.min-least.type_inv } in
          let is : to_z w128 c.if-not-has.least-bits ≡ w.min-least.result = w.least-is
          ∙ to_z-of_z w128 w.min-least.result fm in
          let b = to_z-of_z w128 w.slack_by.result fs ∙ w.slack_by.ensures in
          rw is (least_with q s.w s.groups x es u v i _ _ _ inv here.0
          (here.1, λ h. both_ways c.has.result w.if-not-has.true (c.has.ensures.member.1 h)) b
          w.min-least.ensures.value))
      | else-not-has w ↦ rw w.least-is
          (least_without q s.w s.groups x es u v i _ inv
          (c.has.ensures.member.0 w.if-not-has.false))
    ]

pub returns : goal.returns
returns c =
    least_all _ _ _ _ _ _ _ _ _ c.loop-i.invariant (omega (arith, c.loop-i-test.false))
    c.holders-holders.ensures.exact
