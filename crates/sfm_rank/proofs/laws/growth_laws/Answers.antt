use Rattle.sfm_rank.proofs.Growing.{first_basis, grown-rank}
use Rattle.sfm_rank.proofs.Terms.{rank-starts}
use Rattle.sfm_rank.proofs.laws.growth_laws.Goals as goal

pub returns : goal.returns
returns g c =
    let m = g.M.Independence in
    let r = c.requires in
    record {
      reaches = λ s sets ks growth. grown-rank m.ground m.IsIndependent r.matroid s sets growth ks;
      starts = λ sets growth. (rank-starts m.ground c.args._w m.IsIndependent m.rank r.low r.matroid
          r.ranks (sets m.ground) (first_basis m.ground m.IsIndependent m.rank r.matroid r.ranks
          sets growth) c.args._q r.factor).1;
    }
