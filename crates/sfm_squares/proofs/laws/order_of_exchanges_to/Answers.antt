use Rattle.sfm_spec.proofs.Duality.{meanings-terms}
use Rattle.sfm_spec.specs.Sets.{Has}
use Rattle.sfm_squares.proofs.LevelBack.{move_laws_to}
use Rattle.sfm_squares.proofs.laws.order_of_exchanges_to.Goals as goal

pub returns : goal.returns
returns g c =
    let r = c.requires in
    let fit = meanings-terms r.placed.0 g.T.Term.places g.T.Term.value_of g.met.T.Term.family
    g.met.T.Term.submodular c.args._terms.now r.placed.1 in
    λ steps shortest can. move_laws_to _ r.placed.0 c.args._q c.args._rows.now r.factor fit r.bases
    (Has c.args._to.now) c.args._first steps c.args._a r.apart r.amount shortest can
