use Rattle.std.proofs.Common.{◌≡◌, ◌++◌, List, ℕ, MatchOption, subst, ◌∙◌}
use Rattle.std.specs.Fmt.{decimal}
use Rattle.sfm_readback.proofs.Tokens.{behind_both}
use Rattle.sfm_readback.proofs.lists.behind_count.Goals as goal

pub returns : goal.returns
returns c =
    let text = c.in_ok-text.text.now in
    let label : c.as_bytes.result.now ≡ decimal c.args.count = c.as_bytes.ensures.value
    ∙ c.format.ensures.text in
    behind_both c.args.line.now c.args.word.now (decimal c.args.count) text c.behind-2.result
    c.in_ok-text.ensures
    (subst (λ (l : List ℕ). MatchOption c.behind-2.result ((d : List ℕ) → text ≡ l ++ d → ⊥)
    (λ x. text ≡ l ++ x.now)) label c.behind-2.ensures)
