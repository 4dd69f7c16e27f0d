use Rattle.std.proofs.Common.{pos, subst}
use Rattle.std.proofs.lemmas.Result.{IfOk-weaker}
use Rattle.sfm_spec.specs.Families.{meanings, even_shift}
use Rattle.sfm_extreme.specs.Certified.{IsAnswer}
use Rattle.sfm_extreme.specs.declared.extremes.Certified.TheVariants.{Proved}
use Rattle.sfm_extreme.proofs.minimisers.read_minimisers.Goals as goal

pub minimisers_at-requires-clause-small : goal.minimisers_at-requires-clause-small
minimisers_at-requires-clause-small g c = rw c.in_ok-graph.ensures.bases c.requires.small

pub minimisers_at-requires-clause-prove : goal.minimisers_at-requires-clause-prove
minimisers_at-requires-clause-prove g c = rw c.in_ok-graph.ensures.bases c.requires.prove

pub returns-clause-answer : goal.returns-clause-answer
returns-clause-answer g c =
    let t = g.T.Term in
    IfOk-weaker c.minimisers_at.result _ _
    (λ r h. subst (λ b. IsAnswer (meanings t.places t.value_of c.args.terms.now) c.args.n (pos 1)
    (even_shift c.args.n (pos 0)) b (Proved r.proved)) c.in_ok-graph.ensures.bases h)
    c.minimisers_at.ensures.answer
