use Rattle.sfm_passes.specs.GroupPasses.{HasMembers, LacksMember}
use Rattle.sfm_passes.proofs.Passed.{any-here, any-behind, all-more, all-none}
use Rattle.sfm_passes.proofs.PieceCuts.{left-none, left-first, left-smaller}
use Rattle.sfm_passes.proofs.group_test.all_have_members.Goals as goal

pub loop-left-init : goal.loop-left-init
loop-left-init c = λ elements keys. (λ any. any, λ all. all)

pub returns-then-not-has_members : goal.returns-then-not-has_members
returns-then-not-has_members c = λ elements keys. (c.loop-left.invariant elements keys).0
    (any-here (LacksMember elements) _ _ _
    (left-first c.loop-left.left c.in-Some.line c.first_piece.result.0 c.first_piece.result.1
    c.in-Some.is c.first_piece.ensures.pieces) (c.if-not-has_members.ensures elements keys))

pub loop-left-preserved : goal.loop-left-preserved
loop-left-preserved c = λ elements keys. (
  λ any. (c.loop-left.invariant elements keys).0
      (any-behind (LacksMember elements) _ _ _
      (left-first c.loop-left.left c.in-Some.line c.first_piece.result.0 c.first_piece.result.1
      c.in-Some.is c.first_piece.ensures.pieces) any),
  λ all. (c.loop-left.invariant elements keys).1
      (all-more (HasMembers elements) _ _ _
      (left-first c.loop-left.left c.in-Some.line c.first_piece.result.0 c.first_piece.result.1
      c.in-Some.is c.first_piece.ensures.pieces) (c.if-not-has_members.ensures elements keys) all),
)

pub loop-left-smaller : goal.loop-left-smaller
loop-left-smaller c = left-smaller c.loop-left.left c.first_piece.result.1 c.in-Some.line
    c.in-Some.is c.first_piece.ensures.shorter

pub returns : goal.returns
returns c = λ elements keys. (c.loop-left.invariant elements keys).1
    (all-none (HasMembers elements) _ (left-none c.loop-left.left c.in_default.is))
