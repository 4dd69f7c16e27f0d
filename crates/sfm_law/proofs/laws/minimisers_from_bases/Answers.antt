use Rattle.sfm_spec.proofs.Duality.{meanings-terms}
use Rattle.sfm_spec.proofs.Proving.{base_laws}
use Rattle.sfm_law.proofs.laws.minimisers_from_bases.Goals as goal

pub returns : goal.returns
returns g c =
    let fit = meanings-terms c.args._n g.T.Term.places g.T.Term.value_of g.met.T.Term.family
    g.met.T.Term.submodular c.args._terms.now c.requires.placed in
    base_laws _ _ c.args._n c.args._q c.args._shift.now c.requires.factor fit c.requires.bases
