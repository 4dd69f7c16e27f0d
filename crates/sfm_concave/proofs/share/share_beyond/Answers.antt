use Rattle.std.proofs.Common.{FitsSigned}
use mir.Syntax.{w128}
use Rattle.sfm_concave.proofs.Ranks.{ranked_share}
use Rattle.sfm_concave.proofs.share.share_beyond.Goals as goal

pub returns : goal.returns
returns c =
    let r = c.requires in
    let fb : FitsSigned w128 c.args._bar = c.ranges._bar in
    rw (c.share_from.ensures.count, c.share_from.ensures.sum.0)
    (ranked_share _ _ _ r.ranked r.few r.small c.args._bar _ r.cut)
