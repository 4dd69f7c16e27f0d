use Rattle.std.proofs.Common.{length, None, ap, sym, ◌∙◌, arith}
use Rattle.std.proofs.lemmas.List.{get_or_read}
use Rattle.sfm_assign.specs.Spread.{answer_at}
use Rattle.sfm_assign.proofs.Telling.{some_of}
use Rattle.sfm_assign.proofs.told.Told.knows.Goals as goal

pub returns : goal.returns
returns c t =
    let answers = c.self.inside.answers.items in
    let u = c.args.u in
    let view = c.self.view_is in
    let long = ap length view in
    let place = c.requires in
    let (a, is) = some_of c.index.result.now (sym c.is_some.ensures ∙ t) in (
      a,
      sym (ap (λ xs. answer_at xs u) view)
          ∙ (sym (get_or_read answers u c.index.result.now (omega (arith, long, place))
          c.index.ensures None) ∙ is),
    )
