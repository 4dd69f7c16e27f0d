use Rattle.std.proofs.Common.{◌≡◌, ℕ, length, sym, ap, ◌∙◌, subst}
use Rattle.std.proofs.lemmas.List.{with_items_is}
use Rattle.sfm_base.specs.Words.{bit_of, members, AreWords, joined, joint}
use Rattle.sfm_base.proofs.Members.{same_count}
use Rattle.sfm_base.proofs.Joining.{joined_set}
use Rattle.sfm_base.proofs.set.Set.join.Goals as goal
use Rattle.sfm_base.proofs.set.Set.join.Goals.{After-join}

pub join-requires : goal.join-requires
join-requires c =
    ap length c.deref_mut.ensures.value
    ∙ (same_count _ _ _ _ _ _ c.self.invariant c.other.invariant c.self.view_is c.other.view_is
    c.requires ∙ sym (ap length c.deref.ensures.value))

-- there are as many words as before
counted : (c : After-join) → length c.join.new.words ≡ c.self.inside.words.len
counted c = c.join.auto.words ∙ c.deref_mut.ensures.len

-- and they are those of the set that becomes of both
all : (c : After-join) → AreWords c.self.inside.n c.join.new.words
    × (members c.self.inside.n c.join.new.words ≡ joined c.args.joining c.args.self.now
    c.args.other.now)
all c =
    let a = c.self.inside.words.items in
    let b = c.other.inside.words.items in
    let r = c.join.new.words in
    let each : (e : ℕ) → bit_of r e ≡ joint c.args.joining (bit_of a e)
    (bit_of b e) = rw (c.deref_mut.ensures.value, c.deref.ensures.value) at c.join.ensures in
    joined_set c.args.joining _ _ a b r _ _ c.self.invariant c.other.invariant c.self.view_is
    c.other.view_is c.requires (counted c ∙ c.self.inside.words.ok.0) each

pub invariant_of-self : goal.invariant_of-self
invariant_of-self c =
    let h = (goal.at.invariant_of-self c).After-join in
    subst (λ words. AreWords c.self.inside.n words)
    (sym (with_items_is c.self.inside.words c.join.new.words (counted h))) (all h).0

pub returns : goal.returns
returns c =
    let h = (goal.at.returns c).After-join in
    ap (λ words. members c.self.inside.n words)
    (with_items_is c.self.inside.words c.join.new.words (counted h)) ∙ (all h).1
