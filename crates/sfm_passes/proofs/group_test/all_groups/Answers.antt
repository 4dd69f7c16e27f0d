use Rattle.sfm_passes.specs.GroupPasses.{GroupHolds, GroupFails}
use Rattle.sfm_passes.proofs.Passed.{any-here, any-behind, all-more, all-none}
use Rattle.sfm_passes.proofs.PieceCuts.{left-none, left-first, left-smaller, by-yes, by-no}
use Rattle.sfm_passes.proofs.group_test.all_groups.Goals as goal

pub loop-left-init : goal.loop-left-init
loop-left-init c = record { some = λ any. any; all = λ all. all }

pub returns-then-not-holds : goal.returns-then-not-holds
returns-then-not-holds c = c.loop-left.invariant.some
    (any-here (GroupFails c.args.instance.now.version c.args.test) _ _ _
    (left-first c.loop-left.left c.in-Some.line c.first_piece.result.0 c.first_piece.result.1
    c.in-Some.is c.first_piece.ensures.pieces)
    (by-no _ _ _ c.if-not-holds.true c.in_ok-holds.ensures))

pub loop-left-preserved : goal.loop-left-preserved
loop-left-preserved c = record {
  some = λ any. c.loop-left.invariant.some
      (any-behind (GroupFails c.args.instance.now.version c.args.test) _ _ _
      (left-first c.loop-left.left c.in-Some.line c.first_piece.result.0 c.first_piece.result.1
      c.in-Some.is c.first_piece.ensures.pieces) any);
  all = λ all. c.loop-left.invariant.all
      (all-more (GroupHolds c.args.instance.now.version c.args.test) _ _ _
      (left-first c.loop-left.left c.in-Some.line c.first_piece.result.0 c.first_piece.result.1
      c.in-Some.is c.first_piece.ensures.pieces)
      (by-yes _ _ _ c.if-not-holds.false c.in_ok-holds.ensures) all);
}

pub loop-left-smaller : goal.loop-left-smaller
loop-left-smaller c = left-smaller c.loop-left.left c.first_piece.result.1 c.in-Some.line
    c.in-Some.is c.first_piece.ensures.shorter

pub returns : goal.returns
returns c = c.loop-left.invariant.all
    (all-none (GroupHolds c.args.instance.now.version c.args.test) _
    (left-none c.loop-left.left c.in_default.is))
