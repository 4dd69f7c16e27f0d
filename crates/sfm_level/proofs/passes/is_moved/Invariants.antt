use Rattle.std.proofs.Common.{◌≡◌, ℕ, ◌<◌, List, pos, ◌+ℤ◌, ◌≤ℤ◌, ◌<ℤ◌, true, false}
use Rattle.sfm_spec.specs.Families.{meanings, base_sum_at, even_shift}
use Rattle.sfm_spec.specs.Walks.{Step, Joins}
use Rattle.sfm_level.specs.Sums.{squares_at}
use Rattle.sfm_level.specs.Levelling.{IsLevelling}
use Rattle.sfm_level.proofs.passes.is_moved.Given as goal

-- the graph is one at bases that are levelled; with a walk the squares of their sum have fallen,
-- and without one the bases have stayed, and no walk joins at the slopes so far
abbrev pub invariant-loop-a : goal.invariant-loop-a
invariant-loop-a g l =
    let t = g.T.Term in
    let ts = meanings t.places t.value_of l.terms in
    let before = l.initial.graph.bases in
    IsLevelling t l.terms l.n l.graph
    × (squares_at ts l.n l.graph.bases ≤ℤ squares_at ts l.n before)
    × (l.moved ≡ true → squares_at ts l.n l.graph.bases <ℤ squares_at ts l.n before)
    × (l.moved ≡ false → (l.graph.bases ≡ before)
    × ((e : ℕ) → e < l.a-index → (first : ℕ) (steps : List Step)
    → Joins ts (pos 1) (even_shift l.n (base_sum_at ts before e +ℤ pos 1)) before first steps → ⊥))
