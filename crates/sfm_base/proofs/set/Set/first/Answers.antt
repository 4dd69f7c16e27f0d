use Rattle.std.proofs.Common.{◌≤◌, ◌^◌, List, ℕ, length, sym, subst}
use Rattle.sfm_base.proofs.Counting.{few_words, first_in_set}
use Rattle.sfm_base.proofs.set.Set.first.Goals as goal

pub first-requires : goal.first-requires
first-requires c = subst (λ (words : List ℕ). length words ≤ 2 ^ 58) (sym c.deref.ensures.value)
    (few_words c.self.inside.n c.self.inside.words.items c.self.invariant)

pub returns : goal.returns
returns c = first_in_set c.self.inside.n c.self.inside.words.items c.args.self.now c.first.result
    c.self.invariant c.self.view_is (rw c.deref.ensures.value at c.first.ensures)
