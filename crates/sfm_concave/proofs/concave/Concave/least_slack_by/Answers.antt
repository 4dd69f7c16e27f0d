use Rattle.std.proofs.Common.{◌≤◌, ◌-◌, ◌∙◌, length, get_or, pos, sym, arith, FitsSigned}
use Rattle.std.proofs.lemmas.Int.{to_z-of_z}
use Rattle.std.proofs.lemmas.List.Elements.{All-get_or}
use mir.Syntax.{w128}
use Rattle.sfm_spec.specs.Bounds.{IsEntry}
use Rattle.sfm_law.proofs.Writes.{entry_fits}
use Rattle.sfm_concave.specs.Thresholds.{above_between}
use Rattle.sfm_concave.specs.ConcaveLaws.{scaled}
use Rattle.sfm_concave.proofs.LeastSoFar.{least_begin, least_before, least_all}
use Rattle.sfm_concave.proofs.ConcaveRooms.{concave_least}
use Rattle.sfm_concave.proofs.Ranks.{ranked_small}
use Rattle.sfm_concave.proofs.concave.Concave.least_slack_by.Goals as goal

pub loop-i-init : goal.loop-i-init
loop-i-init c =
    let r = c.requires in
    let y = c.args.ranking.sorted.now in
    let fs : FitsSigned w128 c.slack_without-least.result = record {
      sfits = c.slack_without-least.type_inv;
    } in
    simp to_z-of_z (
      least_begin (scaled c.args.at.now.q c.args.self.now.values) c.args.at.now.x.now c.args.u
          c.args.v r.pair.from r.pair.onto r.pair.apart y (length y) (length y) _ (omega arith)
          c.slack_without-least.ensures,
      λ lt. absurd (omega (arith, lt)),
    )

pub loop-i-preserved : goal.loop-i-preserved
loop-i-preserved c =
    let r = c.requires in
    let x = c.args.at.now.x.now in
    let y = c.args.ranking.sorted.now in
    let i = c.loop-i.i in
    let more = c.loop-i-test.true in
    let few : length x ≤ 256 = omega (arith, r.entries, c.args.self.now.few) in
    let small = ranked_small x y c.args.ranking.sums.now r.ranked few r.small in
    let fa : FitsSigned w128 (get_or y (i - 1) (pos 0)) = entry_fits _
    (All-get_or IsEntry y (i - 1) (pos 0) (omega (arith, more)) small) in
    let fl : FitsSigned w128 c.lesser_slack-least.result = record {
      sfits = c.lesser_slack-least.type_inv;
    } in
    let own = simp to_z-of_z at c.share_between-share.ensures in
    let m = c.lesser_slack-least.ensures
    (above_between (get_or y (i - 1) (pos 0)) x c.args.u c.args.v) own in
    let inv = c.loop-i.invariant in
    let cut = c.count_upto_place-upto.ensures in
    simp to_z-of_z (
      least_before (scaled c.args.at.now.q c.args.self.now.values) x c.args.u c.args.v
          r.pair.from r.pair.onto r.pair.apart y i (i - 1) (length y) _ _ (omega (arith, more))
          inv.0
          m,
      λ lt. cut,
    )

pub returns : goal.returns
returns c =
    let r = c.requires in
    let s = c.args.self.now in
    let y = c.args.ranking.sorted.now in
    let inv = c.loop-i.invariant in
    concave_least c.args.at.now.q s.values c.args.at.now.x.now r.factor.low
    (s.counted ∙ sym r.entries) s.falling c.args.u c.args.v _ r.pair.from r.pair.onto
    r.pair.apart inv.0.rest
    (least_all (scaled c.args.at.now.q s.values) c.args.at.now.x.now c.args.u c.args.v r.pair.from
    r.pair.onto r.pair.apart y c.loop-i.i (length y) _ r.ranked.same
    (omega (arith, c.loop-i-test.false)) (omega arith) inv.0)
    inv.0.reached
