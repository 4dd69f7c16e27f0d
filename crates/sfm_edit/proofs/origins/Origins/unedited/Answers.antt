use Rattle.std.proofs.Common.{[], ◌∷◌, ◌++◌, List, ℕ, Option, Some, sym, ap, ◌∙◌, arith}
use Rattle.std.proofs.lemmas.List.FromFn.{map-range_with_len_more}
use Rattle.sfm_edit.proofs.origins.Origins.unedited.Goals as goal

pub loop-i-preserved : goal.loop-i-preserved
loop-i-preserved c =
    let i = c.loop-i.i in
    c.in_ok-push.ensures.items
    ∙ (ap (λ (l : List (Option ℕ)). l ++ Some i ∷ []) c.loop-i.invariant
    ∙ sym (map-range_with_len_more (λ i. Some i) 0 i i (omega arith)))
