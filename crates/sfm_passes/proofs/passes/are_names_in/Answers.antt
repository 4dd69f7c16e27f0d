use Rattle.std.proofs.Common.{refl}
use Rattle.std.proofs.lemmas.Bool.{false≢true}
use Rattle.sfm_spec.specs.Names.{IsName}
use Rattle.sfm_passes.proofs.Passed.{any-here, any-behind, all-more, all-none}
use Rattle.sfm_passes.proofs.passes.are_names_in.Goals as goal

pub loop-token-init : goal.loop-token-init
loop-token-init c = record { some = λ any. any; all = λ all. all }

pub returns-then-not-is_name : goal.returns-then-not-is_name
returns-then-not-is_name c = c.loop-token.invariant.some
    (any-here (λ text. IsName text → ⊥) _ _ _ c.in-Some.ensures.cut
    (λ is. false≢true (c.if-not-is_name.ensures.1 is)))

pub loop-token-preserved : goal.loop-token-preserved
loop-token-preserved c = record {
  some = λ any. c.loop-token.invariant.some
      (any-behind (λ text. IsName text → ⊥) _ _ _ c.in-Some.ensures.cut any);
  all = λ all. c.loop-token.invariant.all
      (all-more IsName _ _ _ c.in-Some.ensures.cut (c.if-not-is_name.ensures.0 refl) all);
}

pub returns : goal.returns
returns c = c.loop-token.invariant.all (all-none IsName _ c.in_default.ensures.cut)
