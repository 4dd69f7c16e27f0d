use Rattle.sfm_side.specs.Passes.{Passes}
use Rattle.sfm_passes.proofs.Passed.{any-here, any-behind, all-more, all-none}
use Rattle.sfm_side.proofs.passes.all_pass.Goals as goal

pub loop-token-init : goal.loop-token-init
loop-token-init c = record { some = λ any. any; all = λ all. all }

pub returns-then-not-passes : goal.returns-then-not-passes
returns-then-not-passes c = c.loop-token.invariant.some
    (any-here (λ token. Passes c.args.instance.now.names c.args.test token → ⊥) _ _ _
    c.in-Some.ensures.cut c.if-not-passes.ensures)

pub loop-token-preserved : goal.loop-token-preserved
loop-token-preserved c = record {
  some = λ any. c.loop-token.invariant.some
      (any-behind (λ token. Passes c.args.instance.now.names c.args.test token → ⊥) _ _ _
      c.in-Some.ensures.cut any);
  all = λ all. c.loop-token.invariant.all
      (all-more (Passes c.args.instance.now.names c.args.test) _ _ _ c.in-Some.ensures.cut
      c.if-not-passes.ensures all);
}

pub returns : goal.returns
returns c = c.loop-token.invariant.all
    (all-none (Passes c.args.instance.now.names c.args.test) _ c.in_default.ensures.cut)
