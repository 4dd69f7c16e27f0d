use Rattle.std.proofs.Common.{refl}
use Rattle.std.proofs.lemmas.Bool.{false≢true}
use Rattle.sfm_lines.specs.Parts.{IsSeparator}
use Rattle.sfm_passes.proofs.Passed.{any-here, any-behind, all-more, all-none}
use Rattle.sfm_passes.proofs.passes.has_separator_in.Goals as goal

pub loop-token-init : goal.loop-token-init
loop-token-init c = record { some = λ any. any; none = λ all. all }

pub returns-then-is_separator : goal.returns-then-is_separator
returns-then-is_separator c = c.loop-token.invariant.some
    (any-here IsSeparator _ _ _ c.in-Some.ensures.cut (c.if-is_separator.ensures.0 refl))

pub loop-token-preserved : goal.loop-token-preserved
loop-token-preserved c = record {
  some = λ any. c.loop-token.invariant.some
      (any-behind IsSeparator _ _ _ c.in-Some.ensures.cut any);
  none = λ all. c.loop-token.invariant.none
      (all-more (λ token. IsSeparator token → ⊥) _ _ _ c.in-Some.ensures.cut
      (λ m. false≢true (c.if-is_separator.ensures.1 m)) all);
}

pub returns : goal.returns
returns c = c.loop-token.invariant.none
    (all-none (λ token. IsSeparator token → ⊥) _ c.in_default.ensures.cut)
