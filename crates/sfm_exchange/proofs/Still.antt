-- A graph that is still one of claims at the same bases, as calls over it are made one after
-- another.
use Rattle.std.proofs.Common.{ℕ, List, length, ℤ, refl, ◌∙◌, arith, FitsSigned}
use Rattle.std.specs.List.{All}
use Rattle.std.proofs.lemmas.Int.{ints, to_z-of_z}
use mir.Syntax.{w128}
use mir.Val.{of_z, to_z}
use Rattle.sfm_law.specs.declared.term.Term.{Ghosts}
use Rattle.sfm_spec.specs.Bounds.{IsEntry}
use Rattle.sfm_exchange.specs.declared.graph.Graph.{Graph}
use Rattle.sfm_exchange.specs.Graph.{IsClaimed, IsReady, IsStill}
use Rattle.sfm_exchange.proofs.ClaimedGraphs.{over, own}

module _ {X N : Type 0} {T : Ghosts X N} {terms : List X} {q : ℤ} where
  -- it is at first
  pub still_begun : {n : ℕ} {graph : Graph N} → IsClaimed T terms n q graph
      → IsStill T terms q graph graph
  still_begun h = record { claimed = own h; bases = refl }

  -- it is ready for a call over it where its bases are small
  pub ready : {n : ℕ} {graph : Graph N} → IsClaimed T terms n q graph
      → All (λ x. All IsEntry x) graph.bases → IsReady T terms q graph
  ready h small = record { claimed = own h; small = small }

  -- a graph over as many places as one has spots for is one over as many as that, also where the
  -- factor is told as a word
  pub over_word : {n : ℕ} {graph graph' : Graph N} → IsClaimed T terms n q graph
      → IsClaimed T terms (length graph.spots.items) (to_z w128 (of_z w128 q)) graph'
      → IsClaimed T terms n q graph'
  over_word h h' = let fq : FitsSigned w128 q = omega (arith, ints, h.factor) in over h
      (simp to_z-of_z at h')

  module _ {before graph : Graph N} (s : IsStill T terms q before graph) where
    -- it is ready for the next call where the bases are small
    pub still_ready : All (λ x. All IsEntry x) before.bases → IsReady T terms q graph
    still_ready small = record { claimed = own s.claimed; small = rw s.bases small }

    -- and it is still one after that
    pub still_then : {after : Graph N} → IsStill T terms q graph after
        → IsStill T terms q before after
    still_then t = record { claimed = over s.claimed t.claimed; bases = t.bases ∙ s.bases }
