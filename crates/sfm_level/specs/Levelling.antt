-- What is kept while bases are made to add up to a most level base.
use Rattle.std.specs.Prelude.{◌≡◌, ℕ, ◌*◌, ◌^◌, List, ℤ, pos, ◌+ℤ◌, ◌*ℤ◌, ◌≤ℤ◌}
use Rattle.std.specs.List.{All}
use Rattle.sfm_law.specs.declared.term.Term.{Ghosts}
use Rattle.sfm_spec.specs.Terms.{SetFunction}
use Rattle.sfm_spec.specs.Families.{Meaning, meanings, even_shift}
use Rattle.sfm_spec.specs.Walks.{Step, Joins}
use Rattle.sfm_exchange.specs.declared.graph.Graph.{Graph}
use Rattle.sfm_exchange.specs.Graph.{IsClaimed}
use Rattle.sfm_walk.specs.Spread.{IsUpTo}
use Rattle.sfm_level.specs.Sums.{squares_at}

-- the graph is one at bases of the terms, whose entries are within a bound of which twice is no
-- more than what the squares of their sum are below 1.1 * 10^29
pub record IsLevelling {X N : Type 0} (T : Ghosts X N) (terms : List X) (n : ℕ) (graph : Graph N)
    : Type 0 where
  pub claimed : IsClaimed T terms n (pos 1) graph
  pub bound : ℤ
  pub low : pos 0 ≤ℤ bound
  pub within : All (λ x. All (IsUpTo bound) x) graph.bases
  pub room : ((pos 2 *ℤ bound) +ℤ squares_at (meanings T.places T.value_of terms) n graph.bases)
      ≤ℤ pos (11 * 10 ^ 28)

-- the bases have stayed, and no walk joins at the slope t
pub record IsStillAt (terms : List Meaning) (n : ℕ) (t : ℤ) (before after : List (List ℤ)) : Type 0
  where
    pub same : after ≡ before
    pub ends : (first : ℕ) (steps : List Step)
        → Joins terms (pos 1) (even_shift n t) before first steps → ⊥
