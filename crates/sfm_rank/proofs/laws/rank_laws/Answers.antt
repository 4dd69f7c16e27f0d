use Rattle.sfm_rank.proofs.Ranks.{rank-mono, rank-one, rank-size}
use Rattle.sfm_rank.proofs.Terms.{rank-family, rank-law}
use Rattle.sfm_rank.proofs.laws.rank_laws.Goals as goal

pub returns : goal.returns
returns g c =
    let m = g.M.Independence in
    let r = c.requires in
    record {
      grows = rank-mono m.ground m.IsIndependent m.rank r.matroid r.ranks;
      few = rank-size m.ground m.IsIndependent m.rank r.matroid r.ranks;
      one = rank-one m.ground m.IsIndependent m.rank r.matroid r.ranks;
      family = rank-family m.ground c.args._w m.rank;
      submodular = rank-law m.ground c.args._w m.IsIndependent m.rank r.low r.matroid r.ranks;
    }
