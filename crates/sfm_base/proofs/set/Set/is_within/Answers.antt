use Rattle.std.proofs.Common.{◌≡◌, Bool, List, length, sym, ap, ◌∙◌, subst}
use Rattle.sfm_spec.specs.Sets.{IsWithin}
use Rattle.sfm_base.specs.Words.{members, AreWords}
use Rattle.sfm_base.proofs.Members.{same_places, same_count}
use Rattle.sfm_base.proofs.Joining.{set_within, words_within}
use Rattle.sfm_base.proofs.set.Set.is_within.Goals as goal

pub are_within-requires : goal.are_within-requires
are_within-requires c =
    ap length c.deref.ensures.value
    ∙ (same_count _ _ _ _ _ _ c.self.invariant c.other.invariant c.self.view_is c.other.view_is
    c.requires ∙ sym (ap length c.deref-2.ensures.value))

pub returns : goal.returns
returns c =
    let n = c.self.inside.n in
    let a = c.self.inside.words.items in
    let b = c.other.inside.words.items in
    let same = same_places _ _ a b _ _ c.self.view_is c.other.view_is c.requires in
    let first : members n a ≡ c.args.self.now = c.self.view_is in
    let second : members n b ≡ c.args.other.now = ap (λ m. members m b) (sym same)
    ∙ c.other.view_is in
    let kept : AreWords n b = subst (λ m. AreWords m b) same c.other.invariant in
    let told = rw (c.deref.ensures.value, c.deref-2.ensures.value) at c.are_within.ensures in (
      λ t. subst (λ (s : List Bool). IsWithin s c.args.other.now) first
          (subst (λ (s : List Bool). IsWithin (members n a) s) second
          (set_within n a b c.self.invariant kept (told.0 t))),
      λ h. told.1 (words_within n a b c.self.invariant kept
          (subst (λ (s : List Bool). IsWithin (members n a) s) (sym second)
          (subst (λ (s : List Bool). IsWithin s c.args.other.now) (sym first) h))),
    )
