use Rattle.sfm_spec.proofs.Duality.{meanings-terms}
use Rattle.sfm_squares.proofs.LevelBack.{level_laws}
use Rattle.sfm_squares.proofs.laws.level_bases.Goals as goal

pub returns : goal.returns
returns g c =
    let r = c.requires in
    let fit = meanings-terms c.args._n g.T.Term.places g.T.Term.value_of g.met.T.Term.family
    g.met.T.Term.submodular c.args._terms.now r.placed in
    level_laws _ c.args._n c.args._rows.now fit r.bases
