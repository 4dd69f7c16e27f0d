use Rattle.std.proofs.Common.{◌∙◌, sym, false, FitsSigned}
use Rattle.std.proofs.lemmas.Int.{to_z-of_z}
use mir.Syntax.{w128}
use Rattle.sfm_concave.proofs.Above.{has_with, same_with}
use Rattle.sfm_concave.proofs.Shares.{same_put, out_some}
use Rattle.sfm_concave.proofs.share.share_between.Goals as goal

pub returns-then-not-is_above : goal.returns-then-not-is_above
returns-then-not-is_above c =
    let r = c.requires in
    let fb : FitsSigned w128 c.args.bar = c.ranges.bar in
    let own = simp to_z-of_z at c.share_with-share.ensures in
    let is = simp to_z-of_z at c.is_above.ensures in
    same_put _ _ _ _ own c.args.v r.onto false
    (same_with _ _ _ _ r.apart ∙ (sym is ∙ c.if-not-is_above.true))

pub take_out-requires-clause-some : goal.take_out-requires-clause-some
take_out-requires-clause-some c =
    out_some _ _ _ _ c.share_with-share.ensures c.args.u c.requires.from
    (has_with _ c.args.x.now c.args.u c.requires.from)

pub returns : goal.returns
returns c =
    let r = c.requires in
    let fb : FitsSigned w128 c.args.bar = c.ranges.bar in
    let own = simp to_z-of_z at c.share_with-share.ensures in
    let is = simp to_z-of_z at c.is_above.ensures in
    c.take_out.ensures _ own (same_with _ _ _ _ r.apart ∙ (sym is ∙ c.if-not-is_above.false))
