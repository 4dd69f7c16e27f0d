use Rattle.std.proofs.Common.{Contains, sym, ◌∙◌}
use Rattle.std.proofs.lemmas.Bool.{true≢false}
use Rattle.sfm_lines.proofs.Members.{among-contains, contains-among}
use Rattle.sfm_passes.proofs.Passed.{any-here, any-behind, all-more, all-none}
use Rattle.sfm_passes.proofs.group_test.are_known_in.Goals as goal

pub loop-token-init : goal.loop-token-init
loop-token-init c = λ texts keys. (λ any. any, λ all. all)

pub returns-then-not-is_known : goal.returns-then-not-is_known
returns-then-not-is_known c = λ texts keys. (c.loop-token.invariant texts keys).0
    (any-here (λ name. Contains texts name → ⊥) _ _ _ c.in-Some.ensures.cut
    (λ h. true≢false (sym (contains-among texts _ h) ∙ sym (c.if-not-is_known.ensures texts keys))))

pub loop-token-preserved : goal.loop-token-preserved
loop-token-preserved c = λ texts keys. (
  λ any. (c.loop-token.invariant texts keys).0
      (any-behind (λ name. Contains texts name → ⊥) _ _ _ c.in-Some.ensures.cut any),
  λ all. (c.loop-token.invariant texts keys).1
      (all-more (Contains texts) _ _ _ c.in-Some.ensures.cut
      (among-contains texts _ (sym (c.if-not-is_known.ensures texts keys))) all),
)

pub returns : goal.returns
returns c = λ texts keys. (c.loop-token.invariant texts keys).1
    (all-none (Contains texts) _ c.in_default.ensures.cut)
