-- What a term of each kind tells of itself is what its meaning says.
use Rattle.sfm_kind.proofs.kind.Kind.means.Goals as goal
use Rattle.sfm_kind.proofs.Meanings.{kind-means, values-agree, kind-size, kind-start}

pub returns : goal.returns
returns c = record {
  meaning = kind-means c.args.self.now;
  agree = values-agree c.args.self.now;
  size = kind-size c.args.self.now;
  starts = kind-start c.args.self.now;
}
