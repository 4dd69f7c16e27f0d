use Rattle.sfm_passes.specs.Passes.{Holds, Fails}
use Rattle.sfm_passes.proofs.Passed.{any-here, any-behind, all-more, all-none}
use Rattle.sfm_passes.proofs.passes.all_hold.Goals as goal

pub loop-token-init : goal.loop-token-init
loop-token-init c = record { some = λ any. any; all = λ all. all }

pub returns-then-not-holds : goal.returns-then-not-holds
returns-then-not-holds c = c.loop-token.invariant.some
    (any-here (Fails c.args.instance.now c.args.test) _ _ _ c.in-Some.ensures.cut
    c.if-not-holds.ensures)

pub loop-token-preserved : goal.loop-token-preserved
loop-token-preserved c = record {
  some = λ any. c.loop-token.invariant.some
      (any-behind (Fails c.args.instance.now c.args.test) _ _ _ c.in-Some.ensures.cut any);
  all = λ all. c.loop-token.invariant.all
      (all-more (Holds c.args.instance.now c.args.test) _ _ _ c.in-Some.ensures.cut
      c.if-not-holds.ensures all);
}

pub returns : goal.returns
returns c = c.loop-token.invariant.all
    (all-none (Holds c.args.instance.now c.args.test) _ c.in_default.ensures.cut)
