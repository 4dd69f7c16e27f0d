use Rattle.std.proofs.Common.{◌≡◌, replicate, ap, ◌∙◌}
use Rattle.sfm_base.specs.Words.{members}
use Rattle.sfm_base.proofs.Filling.{blank_set}
use Rattle.sfm_base.proofs.set.Set.empty.Goals as goal

pub returns : goal.returns
returns c =
    let items : c.in_ok-words.words.items ≡ replicate c.div_ceil.result
    0 = c.in_ok-words.ensures.items_if_clones_equal (λ y e. e) in
    ap (λ words. members c.args.n words) items ∙ blank_set c.args.n c.div_ceil.result
