use Rattle.std.proofs.Common.{◌∙◌, sym, true, FitsSigned}
use Rattle.std.proofs.lemmas.Int.{to_z-of_z}
use mir.Syntax.{w128}
use Rattle.sfm_concave.proofs.Shares.{same_put}
use Rattle.sfm_concave.proofs.share.share_with.Goals as goal

pub returns-then-is_above : goal.returns-then-is_above
returns-then-is_above c =
    let fb : FitsSigned w128 c.args.bar = c.ranges.bar in
    let is = simp to_z-of_z at c.is_above.ensures in
    same_put _ _ _ _ c.requires.over c.args.u c.requires.from true (sym is ∙ c.if-is_above.true)

pub returns : goal.returns
returns c =
    let fb : FitsSigned w128 c.args.bar = c.ranges.bar in
    let is = simp to_z-of_z at c.is_above.ensures in
    c.put_in.ensures _ c.requires.over (sym is ∙ c.if-is_above.false)
