-- Rows that prove a minimum, as walks end at them, and a graph that came to such rows.
use Rattle.std.specs.Prelude.{ℕ, List, length, ℤ}
use Rattle.std.specs.List.{All}
use Rattle.sfm_law.specs.declared.term.Term.{Ghosts}
use Rattle.sfm_law.specs.Rest.{IsRest}
use Rattle.sfm_spec.specs.Bounds.{IsEntry}
use Rattle.sfm_spec.specs.Families.{Meaning, meanings, AreBases, Prove}
use Rattle.sfm_spec.specs.Walks.{Step, Joins}
use Rattle.sfm_exchange.specs.declared.graph.Graph.{Graph}
use Rattle.sfm_exchange.specs.Graph.{IsClaimed}
use Rattle.sfm_walk.specs.declared.optimum.Optimum.{Optimum}
use Rattle.sfm_walk.specs.Counted.{IsCounted}
use Rattle.sfm_walk.specs.Spread.{AreSpread}

-- bases of q times the terms with small entries that no walk joins, so they prove the minimum of
-- the sum less the shift
pub record AreOptimal (terms : List Meaning) (n : ℕ) (q : ℤ) (shift : List ℤ)
    (rows : List (List ℤ)) : Type 0 where
  pub bases : AreBases q terms rows
  pub small : All (λ x. All IsEntry x) rows
  pub ends : (first : ℕ) (steps : List Step) → Joins terms q shift rows first steps → ⊥
  pub proves : Prove terms n q shift rows

-- such bases with z, which is what they add up to less the shift
pub record IsOptimum (terms : List Meaning) (n : ℕ) (q : ℤ) (shift : List ℤ)
    (optimum : Optimum) : Type 0 where
  pub optimal : AreOptimal terms n q shift optimum.bases
  pub rest : IsRest terms shift optimum.bases optimum.z

-- a graph of q times the terms that came from the bases of another one to such bases, with z: by
-- walks that were counted, and no entry has come to lie farther from 0 by more than the sum of
-- min(z, 0) has risen
pub record IsImproved {X N : Type 0} (T : Ghosts X N) (terms : List X) (q : ℤ) (shift : List ℤ)
    (before after : Graph N) (z : List ℤ) (count counted_to : ℕ) : Type 0 where
  pub graph : IsClaimed T terms (length shift) q after
  pub optimal : AreOptimal (meanings T.places T.value_of terms) (length shift) q shift after.bases
  pub rest : IsRest (meanings T.places T.value_of terms) shift after.bases z
  pub counted : IsCounted (meanings T.places T.value_of terms) (length shift) q shift before.bases
      after.bases count counted_to
  pub spread : AreSpread (meanings T.places T.value_of terms) (length shift) shift before.bases
      after.bases
