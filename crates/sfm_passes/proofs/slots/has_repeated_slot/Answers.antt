use Rattle.sfm_passes.specs.Passes.{RepeatsSlot}
use Rattle.sfm_passes.proofs.Passed.{any-here, any-behind, all-more, all-none}
use Rattle.sfm_passes.proofs.PieceCuts.{by-yes, by-no}
use Rattle.sfm_passes.proofs.slots.has_repeated_slot.Goals as goal

pub loop-token-init : goal.loop-token-init
loop-token-init c = record { some = λ any. any; none = λ all. all }

pub returns-then-branch : goal.returns-then-branch
returns-then-branch c = c.loop-token.invariant.some
    (any-here RepeatsSlot _ _ _ c.in-Some.ensures.cut
    (by-yes _ _ _ c.if-branch.true c.in_ok-repeats_slot.ensures))

pub loop-token-preserved : goal.loop-token-preserved
loop-token-preserved c = record {
  some = λ any. c.loop-token.invariant.some
      (any-behind RepeatsSlot _ _ _ c.in-Some.ensures.cut any);
  none = λ all. c.loop-token.invariant.none
      (all-more (λ token. RepeatsSlot token → ⊥) _ _ _ c.in-Some.ensures.cut
      (by-no _ _ _ c.if-branch.false c.in_ok-repeats_slot.ensures) all);
}

pub returns : goal.returns
returns c = c.loop-token.invariant.none
    (all-none (λ token. RepeatsSlot token → ⊥) _ c.in_default.ensures.cut)
