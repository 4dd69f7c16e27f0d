use Rattle.std.proofs.Common.{◌<◌, length}
use Rattle.sfm_spec.proofs.Scaled.{family-times, submodular-times}
use Rattle.sfm_spec.proofs.RowLaw.{row_laws}
use Rattle.sfm_law.proofs.laws.rows_after_exchange.Goals as goal

pub returns : goal.returns
returns g c =
    let r = c.requires in
    let family = family-times _ c.args._q _ (g.met.T.Term.family c.args._term.now) in
    let law = submodular-times _ c.args._q _ r.factor (g.met.T.Term.submodular c.args._term.now) in
    let s : c.args._s < length (g.T.Term.places c.args._term.now) = rw (← r.entries) r.from in
    let t : c.args._t < length (g.T.Term.places c.args._term.now) = rw (← r.entries) r.onto in
    row_laws family law r.entries r.base c.args._s c.args._t s t r.apart c.args._a r.amount r.after
