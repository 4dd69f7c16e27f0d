use Rattle.std.proofs.Common.{◌++◌, ◌∷◌, [], replicate, ap, ◌∙◌}
use Rattle.std.proofs.lemmas.List.{append_assoc, replicate_more}
use Rattle.sfm_cells.proofs.cells.add.Goals as goal

pub loop-preserved : goal.loop-preserved
loop-preserved c =
    let i = c.args.i in
    let whos = c.args.whos.now.items in
    c.in_ok-push.ensures.items ∙ (ap (λ w. w ++ i ∷ []) c.loop.invariant
    ∙ (append_assoc whos (replicate c.loop.counter i) (i ∷ [])
    ∙ ap (λ r. whos ++ r) (replicate_more c.loop.counter i)))
