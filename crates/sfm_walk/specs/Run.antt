-- What a minimisation keeps beside the graph.
use Rattle.std.specs.Prelude.{◌≡◌, ℕ, ◌+◌, ◌<◌, ◌≤◌, Bool, true, false, List, length, slice_index_or, ℤ, pos, ◌<ℤ◌, ◌≤ℤ◌, neg_ℤ}
use Rattle.std.specs.List.{All}
use Rattle.sfm_law.specs.declared.term.Term.{Ghosts}
use Rattle.sfm_spec.specs.Bounds.{IsEntry}
use Rattle.sfm_spec.specs.Families.{Meaning, meanings, rest_at}
use Rattle.sfm_spec.specs.Labels.{FallsAlong}
use Rattle.sfm_spec.specs.Progress.{IsProgress, TakesLeastSteps}
use Rattle.sfm_spec.specs.Walks.{Step, IsStep, IsShortest, Joins, last_of}
use Rattle.sfm_law.specs.Rest.{IsRest}
use Rattle.sfm_walk.specs.Labels.{AreLabels}
use Rattle.sfm_walk.specs.Spread.{AreSpread}
use Rattle.sfm_walk.specs.declared.run.Run.{Run}
use Rattle.sfm_reach.specs.declared.bits.Bits.{Bits}
use Rattle.sfm_exchange.specs.declared.graph.Graph.{Graph}
use Rattle.sfm_exchange.specs.declared.path.Hop.{Hop}
use Rattle.sfm_exchange.specs.Graph.{IsClaimed}
use Rattle.sfm_exchange.specs.Hops.{AreHops, AreNamed, IsMovable, Moves, hop_at, steps_of}
use Rattle.sfm_exchange.specs.Levels.{depth_of}
use Rattle.sfm_exchange.specs.Signs.{AreSigns}

-- z is the residual of the rows, and the signs are those of z
pub record IsRunAt (terms : List Meaning) (shift : List ℤ) (rows : List (List ℤ)) (run : Run) : Type
    0 where
  pub is_rest : IsRest terms shift rows run.z.items
  pub signs : AreSigns run.z.items run.signs

-- the graph is one of q times the terms, where rows may be claimed; its bases have small entries,
-- and the run is at them
pub record IsRunning {X N : Type 0} (T : Ghosts X N) (terms : List X) (q : ℤ) (shift : List ℤ)
    (graph : Graph N) (run : Run) : Type 0 where
  pub claimed : IsClaimed T terms (length shift) q graph
  pub small : All (λ x. All IsEntry x) graph.bases
  pub at : IsRunAt (meanings T.places T.value_of terms) shift graph.bases run

-- the course of a walk: it leads from a place with z < 0 to one with z > 0, by least steps, along
-- which distances d fall that fall by no step faster
pub record IsCourse (terms : List Meaning) (n : ℕ) (q : ℤ) (shift : List ℤ) (rows : List (List ℤ))
    (z : List ℤ) (d : ℕ → ℕ) (first : ℕ) (hops : List Hop) : Type 0 where
  pub some : 0 < length hops
  pub last_in : last_of first (steps_of hops) < n
  pub under : slice_index_or z first (pos 0) <ℤ pos 0
  pub over : pos 0 <ℤ slice_index_or z (last_of first (steps_of hops)) (pos 0)
  pub falls : FallsAlong d first (steps_of hops)
  pub least : TakesLeastSteps terms q rows d first (steps_of hops)
  pub no_faster : (from : ℕ) (step : Step) → IsStep terms q rows from step → d from ≤ d step.to + 1
  pub ends : (e : ℕ) → e < n → pos 0 <ℤ rest_at terms rows shift e → d e ≡ 0

-- a shortest joining walk of least steps
pub record IsLeastWalk (terms : List Meaning) (n : ℕ) (q : ℤ) (shift : List ℤ)
    (rows : List (List ℤ)) (z : List ℤ) (d : ℕ → ℕ) (first : ℕ) (hops : List Hop) : Type 0 where
  pub course : IsCourse terms n q shift rows z d first hops
  pub named : AreNamed terms first hops
  pub movable : (k : ℕ) → k < length hops → IsMovable terms q rows (hop_at hops k)
  pub shortest : IsShortest terms q shift rows first (steps_of hops)
  pub first_in : first < n

-- the run has such a walk at the bases of the graph, along which its levels fall, and its levels
-- are labels
pub record IsNext {X N : Type 0} (T : Ghosts X N) (terms : List X) (q : ℤ) (shift : List ℤ)
    (graph : Graph N) (run : Run) : Type 0 where
  pub walk : IsLeastWalk (meanings T.places T.value_of terms) (length shift) q shift graph.bases
      run.z.items (depth_of run.levels.items) run.path.first run.path.hops.items
  pub labels : AreLabels (meanings T.places T.value_of terms) (length shift) q shift graph.bases
      run.levels.items

-- the run after a search at the bases before: it has the next walk where one was found, and else
-- none joins
pub record IsSearched {X N : Type 0} (T : Ghosts X N) (terms : List X) (q : ℤ) (shift : List ℤ)
    (before after : Graph N) (run : Run) (found : Bool) : Type 0 where
  pub running : IsRunning T terms q shift after run
  pub bases : after.bases ≡ before.bases
  pub next : found ≡ true → IsNext T terms q shift after run
  pub ends : found ≡ false → (first : ℕ) (steps : List Step)
      → Joins (meanings T.places T.value_of terms) q shift after.bases first steps → ⊥

-- a walk of least steps as the rows tell it, which lack no step but may have too many
pub record IsSoughtWalk (terms : List Meaning) (n : ℕ) (q : ℤ) (shift : List ℤ)
    (rows : List (List ℤ)) (tables : List (List Bits)) (z : List ℤ) (d : ℕ → ℕ) (first : ℕ)
    (hops : List Hop) : Type 0 where
  pub course : IsCourse terms n q shift rows z d first hops
  pub told : AreHops terms tables first hops

-- the greatest amount that each step and both ends of a walk allow
pub record IsGreatest (terms : List Meaning) (q : ℤ) (rows : List (List ℤ)) (z : List ℤ) (first : ℕ)
    (hops : List Hop) (a : ℤ) : Type 0 where
  pub some : pos 1 ≤ℤ a
  pub under : a ≤ℤ neg_ℤ (slice_index_or z first (pos 0))
  pub over : a ≤ℤ slice_index_or z (last_of first (steps_of hops)) (pos 0)
  pub moves : (k : ℕ) → k < length hops → Moves terms q rows (hop_at hops k) a
  pub greatest : (b : ℤ) → b ≤ℤ neg_ℤ (slice_index_or z first (pos 0))
      → b ≤ℤ slice_index_or z (last_of first (steps_of hops)) (pos 0)
      → ((k : ℕ) → k < length hops → Moves terms q rows (hop_at hops k) b) → b ≤ℤ a

-- bases that came by a move along a walk: the run is at them, they are progress, and no entry has
-- changed by more than the sum of min(z, 0) has risen
pub record AreAdvanced (terms : List Meaning) (n : ℕ) (q : ℤ) (shift : List ℤ)
    (before after : List (List ℤ)) (run : Run) : Type 0 where
  pub at : IsRunAt terms shift after run
  pub progress : IsProgress terms n q shift before after
  pub spread : AreSpread terms n shift before after
