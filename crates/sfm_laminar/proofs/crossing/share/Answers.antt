use Rattle.std.proofs.Common.{sym, ◌∙◌, subst, arith, below_more, ℕ}
use Rattle.std.specs.List.{Contains}
use Rattle.std.proofs.lemmas.Bool.{both_ways, false≢true}
use Rattle.std.proofs.lemmas.List.{get_or_default}
use Rattle.sfm_laminar.proofs.crossing.share.Goals as goal

pub loop-e-preserved : goal.loop-e-preserved
loop-e-preserved c = below_more _ _ c.loop-e.invariant
    (λ h. both_ways c.lists.result c.if-lists.false (c.lists.ensures.1 h))

pub returns : goal.returns
returns c = (
  (λ t. absurd (false≢true t)),
  (λ (e, (i, lt, is), cb). absurd (c.loop-e.invariant i (omega (arith, lt, c.loop-e-test.false))
      (subst (λ (d : ℕ). Contains c.args.b.now d)
      (sym (sym (get_or_default c.args.a.now i e 0 lt) ∙ is)) cb))),
)
