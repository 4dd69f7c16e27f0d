use Rattle.std.proofs.Common.{◌≡◌, ◌++◌, ◌∷◌, List, ℕ, sym, subst, ◌∙◌}
use Rattle.std.proofs.lemmas.List.{append_cancel_left}
use Rattle.std.proofs.lemmas.Bool.{false≢true}
use Rattle.sfm_readback.specs.Lists.{IsStop}
use Rattle.sfm_readback.proofs.lists.behind_name.Goals as goal

same_rest : (bytes token name rest other : List ℕ) → bytes ≡ 32 ∷ token → token ≡ name ++ rest
    → bytes ≡ 32 ∷ (name ++ other) → other ≡ rest
same_rest bytes token name rest other e f g = let h : 32 ∷ token ≡ 32 ∷ (name ++ other) = sym e
    ∙ g in let k : token ≡ name ++ other = cc in append_cancel_left name other rest (sym k ∙ f)

pub returns-else-is_stop : goal.returns-else-is_stop
returns-else-is_stop c = λ other stop e.
    false≢true (sym c.if-is_stop.false ∙ c.is_stop.ensures.1
    (subst (λ (x : List ℕ). IsStop x)
    (same_rest c.args.bytes.now c.in_ok-behind_space.field-0.now c.args.name.now
    c.in_ok-rest.rest.now other c.in_ok-behind_space.ensures c.in_ok-rest.ensures e) stop))
