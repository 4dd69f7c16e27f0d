use Rattle.std.proofs.Common.{◌≡◌, replicate, ap, ◌∙◌}
use Rattle.std.specs.Vec.{vec_len}
use Rattle.sfm_base.specs.Words.{members}
use Rattle.sfm_base.proofs.Filling.{blank_set}
use Rattle.sfm_base.proofs.set.Set.restart.Goals as goal

pub returns-then-len-div_ceil : goal.returns-then-len-div_ceil
returns-then-len-div_ceil c =
    ap (λ words. members c.args.n words) (c.fill.ensures.items (λ y e. e))
    ∙ blank_set c.args.n (vec_len c.self.inside.words)

pub returns-in_ok-self-inside : goal.returns-in_ok-self-inside
returns-in_ok-self-inside c =
    let items : c.in_ok-self-inside.field-0.items ≡ replicate c.div_ceil-else-len-div_ceil.result
    0 = c.in_ok-self-inside.ensures.items_if_clones_equal (λ y e. e) in
    ap (λ words. members c.args.n words) items
    ∙ blank_set c.args.n c.div_ceil-else-len-div_ceil.result
