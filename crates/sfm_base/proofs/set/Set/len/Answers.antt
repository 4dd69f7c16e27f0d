use Rattle.std.proofs.Common.{length, sym, ap, ◌∙◌}
use Rattle.sfm_base.proofs.Members.{length-members}
use Rattle.sfm_base.proofs.set.Set.len.Goals as goal

pub returns : goal.returns
returns c = sym (length-members c.self.inside.n c.self.inside.words.items)
    ∙ ap length c.self.view_is
