use Rattle.sfm_passes.specs.Passes.{Holds, Fails}
use Rattle.sfm_passes.proofs.Passed.{any-here, any-behind, all-more, all-none, take-here, take-past, take-nothing}
use Rattle.sfm_passes.proofs.passes.first_hold.Goals as goal

pub loop-due-init : goal.loop-due-init
loop-due-init c = record { some = λ any. any; all = λ all. all }

pub returns-in_default : goal.returns-in_default
returns-in_default c = c.loop-due.invariant.all
    (all-none (Holds c.args.instance.now c.args.test) _
    (take-past c.loop-due.due _ c.in_default.ensures.cut))

pub returns-then-not-holds : goal.returns-then-not-holds
returns-then-not-holds c = c.loop-due.invariant.some
    (any-here (Fails c.args.instance.now c.args.test) _ _ _
    (take-here c.loop-due.due _ _ _ c.loop-due-test.true c.in-Some.ensures.cut)
    c.if-not-holds.ensures)

pub loop-due-preserved : goal.loop-due-preserved
loop-due-preserved c =
    let here = take-here c.loop-due.due _ _ _ c.loop-due-test.true c.in-Some.ensures.cut in
    record {
      some = λ any. c.loop-due.invariant.some
          (any-behind (Fails c.args.instance.now c.args.test) _ _ _ here any);
      all = λ all. c.loop-due.invariant.all
          (all-more (Holds c.args.instance.now c.args.test) _ _ _ here c.if-not-holds.ensures all);
    }

pub returns : goal.returns
returns c = c.loop-due.invariant.all
    (all-none (Holds c.args.instance.now c.args.test) _
    (take-nothing c.loop-due.due _ c.loop-due-test.false))
