use Rattle.std.proofs.Common.{◌∙◌, get_or, pos, refl, sym, arith, FitsSigned}
use Rattle.std.proofs.lemmas.Int.{to_z-of_z}
use Rattle.std.proofs.lemmas.List.Elements.{All-get_or}
use mir.Syntax.{w128}
use Rattle.sfm_spec.specs.Bounds.{IsEntry}
use Rattle.sfm_law.proofs.Writes.{entry_fits}
use Rattle.sfm_concave.specs.Thresholds.{above_between}
use Rattle.sfm_concave.specs.ConcaveLaws.{scaled}
use Rattle.sfm_concave.proofs.LeastSoFar.{least_begin, least_behind}
use Rattle.sfm_concave.proofs.ConcaveRooms.{concave_least}
use Rattle.sfm_concave.proofs.concave.Concave.least_slack_scanned.Goals as goal

pub loop-a-init : goal.loop-a-init
loop-a-init c =
    let r = c.requires in
    let fs : FitsSigned w128 c.slack_without-least.result = record {
      sfits = c.slack_without-least.type_inv;
    } in
    simp to_z-of_z (least_begin (scaled c.args.at.now.q c.args.self.now.values) c.args.at.now.x.now
    c.args.u c.args.v r.pair.from r.pair.onto r.pair.apart c.args.at.now.x.now 0 0 _
    (omega arith) c.slack_without-least.ensures)

pub loop-a-preserved : goal.loop-a-preserved
loop-a-preserved c =
    let r = c.requires in
    let x = c.args.at.now.x.now in
    let i = c.loop-a.a-index in
    let fa : FitsSigned w128 (get_or x i (pos 0)) = entry_fits _
    (All-get_or IsEntry x i (pos 0) c.loop-a-test.true r.small) in
    let fl : FitsSigned w128 c.lesser_slack-least.result = record {
      sfits = c.lesser_slack-least.type_inv;
    } in
    let own = simp to_z-of_z at c.share_between-share.ensures in
    let m = c.lesser_slack-least.ensures (above_between (get_or x i (pos 0)) x c.args.u c.args.v)
    own in
    let inv = c.loop-a.invariant in
    simp to_z-of_z (least_behind (scaled c.args.at.now.q c.args.self.now.values) x c.args.u c.args.v
    r.pair.from r.pair.onto r.pair.apart x 0 i _ _ inv m)

pub returns : goal.returns
returns c =
    let r = c.requires in
    let s = c.args.self.now in
    let inv = c.loop-a.invariant in
    concave_least c.args.at.now.q s.values c.args.at.now.x.now r.factor.low
    (s.counted ∙ sym r.entries) s.falling c.args.u c.args.v _ r.pair.from r.pair.onto
    r.pair.apart inv.rest
    (λ w lt. inv.least (get_or c.args.at.now.x.now w (pos 0))
    (w, omega arith, omega (arith, lt, c.loop-a-test.false), refl))
    inv.reached
