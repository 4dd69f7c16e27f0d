use Rattle.std.proofs.Common.{◌*◌, ◌<◌, ◌^◌, List, ℕ, length, sym, ap, ◌∙◌, subst}
use Rattle.sfm_spec.specs.Sets.{size}
use Rattle.sfm_base.specs.Words.{members}
use Rattle.sfm_base.proofs.Counting.{size-members, size_fits}
use Rattle.sfm_base.proofs.set.Set.size.Goals as goal

pub count-requires : goal.count-requires
count-requires c = subst (λ (words : List ℕ). size (members (64 * length words) words) < 2 ^ 64)
    (sym c.deref.ensures.value) (size_fits c.self.inside.n c.self.inside.words.items
    c.self.invariant)

pub returns : goal.returns
returns c =
    c.count.ensures ∙ (ap (λ words. size (members (64 * length words) words)) c.deref.ensures.value
    ∙ (size-members c.self.inside.n c.self.inside.words.items c.self.invariant
    ∙ ap size c.self.view_is))
