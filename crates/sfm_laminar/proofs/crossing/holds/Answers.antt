use Rattle.std.proofs.Common.{sym, ◌∙◌, subst, refl, arith, below_more, get_or, ℕ}
use Rattle.std.specs.List.{Contains}
use Rattle.std.proofs.lemmas.Bool.{both_ways, false≢true}
use Rattle.std.proofs.lemmas.List.{get_or_default}
use Rattle.sfm_laminar.proofs.crossing.holds.Goals as goal

pub loop-e-preserved : goal.loop-e-preserved
loop-e-preserved c = below_more _ _ c.loop-e.invariant (c.lists.ensures.0 c.if-not-lists.false)

pub returns : goal.returns
returns c = (
  (λ t e (i, lt, is). subst (λ (d : ℕ). Contains c.args.a.now d)
      (sym (get_or_default c.args.b.now i e 0 lt) ∙ is)
      (c.loop-e.invariant i (omega (arith, lt, c.loop-e-test.false)))),
  (λ all. refl),
)

pub returns-then-not-lists : goal.returns-then-not-lists
returns-then-not-lists c =
    let b = c.args.b.now in
    let k = c.loop-e.e-index in
    let d = get_or b k 0 in (
      (λ t. absurd (false≢true t)),
      (λ all. absurd (both_ways c.lists.result c.if-not-lists.true
          (c.lists.ensures.1
          (all d (k, c.loop-e-test.true, get_or_default b k d 0 c.loop-e-test.true))))),
    )
