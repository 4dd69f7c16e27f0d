-- Where the stages of the breakpoints end.
use Rattle.std.specs.Prelude.{ℕ, ◌^◌, ◌≤◌, List, length, map, ℤ, pos}
use Rattle.std.specs.List.{All}
use Rattle.sfm_law.specs.declared.term.Term.{Ghosts}
use Rattle.sfm_spec.specs.Bounds.{IsEntry}
use Rattle.sfm_spec.specs.Families.{Meaning, meanings, sized_shift, AreBases, Prove}
use Rattle.sfm_spec.specs.Walks.{IsWalkChain, IsFewWalks}
use Rattle.sfm_exchange.specs.Graph.{IsClaimed}
use Rattle.sfm_slope.specs.declared.standing.Standing.{Standing}
use Rattle.sfm_slope.specs.declared.turn.Breakpoint.{Breakpoint}
use Rattle.sfm_exchange.specs.Scaled.{rows_times}

-- at each breakpoint t walk moves lead from the multiples of the first bases to those of the bases
abbrev pub AreReached : List Meaning → List ℤ → ℕ → List (List ℤ) → List (List ℤ) → List Breakpoint
    → Type 0
AreReached terms sizes t firsts rows found =
    All (λ b. IsWalkChain terms b.slope.den (sized_shift sizes b.slope.num) t
    (rows_times b.slope.den firsts) (rows_times b.slope.den rows)) found

-- the graph is one of the terms at bases that as many walks reach from the first ones as are told,
-- at each of the breakpoints
pub record IsStanding {X N : Type 0} (T : Ghosts X N) (terms : List X)
    (sizes : List ℤ) (found : List Breakpoint) (standing : Standing N) : Type 0 where
  pub claimed : IsClaimed T terms (length sizes) (pos 1) standing.graph
  pub small : All (λ x. All IsEntry x) standing.graph.bases
  pub few : standing.walks ≤ 10 ^ 13
  pub reached : AreReached (meanings T.places T.value_of terms) sizes standing.walks
      (map (λ term. T.start_of term (pos 1)) terms) standing.graph.bases found

-- bases with small entries that prove at a shift, and that few walks reach from the first ones
pub record IsSection (terms : List Meaning) (firsts : List (List ℤ)) (n : ℕ) (q : ℤ)
    (shift : List ℤ) (rows : List (List ℤ)) : Type 0 where
  pub bases : AreBases q terms rows
  pub small : All (λ x. All IsEntry x) rows
  pub proves : Prove terms n q shift rows
  pub reached : IsFewWalks terms n q shift firsts rows
