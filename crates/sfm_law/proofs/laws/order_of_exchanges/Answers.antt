use Rattle.sfm_spec.proofs.Duality.{meanings-terms}
use Rattle.sfm_spec.proofs.Gain.{move_laws}
use Rattle.sfm_law.proofs.laws.order_of_exchanges.Goals as goal

pub returns : goal.returns
returns g c =
    let r = c.requires in
    let fit = meanings-terms c.args._n g.T.Term.places g.T.Term.value_of g.met.T.Term.family
    g.met.T.Term.submodular c.args._terms.now r.placed in
    λ first steps a amount shortest can under over. move_laws _ _ c.args._n c.args._q
    c.args._shift.now r.factor fit r.bases first steps a shortest amount can under over
