use Rattle.sfm_concave.proofs.Ranks.{ranked_small}
use Rattle.sfm_concave.proofs.share.share_by_ranking.Goals as goal

pub count_upto-upto-requires-clause-small : goal.count_upto-upto-requires-clause-small
count_upto-upto-requires-clause-small c =
    let r = c.requires in
    let g = c.args.ranking in
    ranked_small c.args.x.now g.sorted.now g.sums.now r.ranked r.few r.small
