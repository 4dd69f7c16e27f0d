-- A run that goes on.
use Rattle.std.proofs.Common.{◌≡◌, List, length, ℤ}
use Rattle.sfm_law.specs.declared.term.Term.{Ghosts}
use Rattle.sfm_exchange.specs.declared.graph.Graph.{Graph}
use Rattle.sfm_exchange.specs.Graph.{IsClaimed}
use Rattle.sfm_walk.specs.declared.run.Run.{Run}
use Rattle.sfm_walk.specs.Run.{IsRunning}

-- over claims at the same bases, where z and its signs stay
pub goes_on : {X N : Type 0} {T : Ghosts X N} {terms : List X} {q : ℤ} {shift : List ℤ}
    {graph graph' : Graph N} {run run' : Run} → IsRunning T terms q shift graph run
    → IsClaimed T terms (length shift) q graph' → graph'.bases ≡ graph.bases → run'.z ≡ run.z
    → run'.signs ≡ run.signs → IsRunning T terms q shift graph' run'
goes_on h claimed bases z signs = record {
  claimed = claimed;
  small = rw bases h.small;
  at = record { is_rest = rw (bases, z) h.at.is_rest; signs = rw (z, signs) h.at.signs };
}
