use Rattle.std.proofs.Common.{length, sym, ap, ◌∙◌}
use Rattle.std.specs.Vec.{vec_len}
use Rattle.sfm_spec.specs.Sets.{empty_set}
use Rattle.sfm_base.specs.Words.{members}
use Rattle.sfm_base.proofs.Members.{length-members}
use Rattle.sfm_base.proofs.Filling.{blank_set}
use Rattle.sfm_base.proofs.set.Set.clear.Goals as goal

pub returns : goal.returns
returns c =
    let n = c.self.inside.n in
    ap (λ words. members n words) (c.fill.ensures.items (λ y e. e))
    ∙ (blank_set n (vec_len c.self.inside.words)
    ∙ ap empty_set (sym (length-members n c.self.inside.words.items) ∙ ap length c.self.view_is))
