use Rattle.std.proofs.Common.{◌≡◌, ℕ, List, length, sym, ap, ◌∙◌}
use Rattle.sfm_base.specs.Words.{members}
use Rattle.sfm_base.proofs.Members.{length-members}
use Rattle.sfm_base.proofs.set.Set.words.Goals as goal

-- the length of the list is the number of places
counted : (n : ℕ) (words : List ℕ) (s : List _) → members n words ≡ s → length s ≡ n
counted n words s is = ap length (sym is) ∙ length-members n words

pub returns-clause-set : goal.returns-clause-set
returns-clause-set c =
    let n = c.self.inside.n in
    let words = c.self.inside.words.items in
    rw (counted n words c.args.self.now c.self.view_is, c.as_slice.ensures.value)
    (sym c.self.view_is)

pub returns-clause-words : goal.returns-clause-words
returns-clause-words c = rw (
  counted c.self.inside.n c.self.inside.words.items c.args.self.now
      c.self.view_is,
  c.as_slice.ensures.value,
) c.self.invariant
