use Rattle.sfm_spec.proofs.Scaled.{family-times, submodular-times}
use Rattle.sfm_spec.proofs.RowLaw.{least_tight}
use Rattle.sfm_law.proofs.laws.least_tight_parts.Goals as goal

pub returns : goal.returns
returns g c =
    let family = family-times _ c.args._q _ (g.met.T.Term.family c.args._term.now) in
    let law = submodular-times _ c.args._q _ c.requires.factor
    (g.met.T.Term.submodular c.args._term.now) in
    least_tight family law c.requires.entries c.requires.base
