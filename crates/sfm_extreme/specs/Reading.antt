-- What is read off bases.
use Rattle.std.specs.Prelude.{◌≡◌, ℕ, List, length, ℤ}
use Rattle.sfm_law.specs.declared.term.Term.{Ghosts}
use Rattle.sfm_spec.specs.Families.{meanings}
use Rattle.sfm_law.specs.Rest.{IsRest}
use Rattle.sfm_exchange.specs.Graph.{IsWhole}
use Rattle.sfm_exchange.specs.Reached.{AreReached}
use Rattle.sfm_exchange.specs.Signs.{AreSigns}
use Rattle.sfm_extreme.specs.declared.reading.Reading.{Reading}

-- the graph is one of q times the terms over n places, z and its signs are those of its bases, and
-- the two searches are done
pub record IsReading {X N : Type 0} (T : Ghosts X N) (terms : List X) (n : ℕ) (q : ℤ)
    (shift : List ℤ) (reading : Reading N) : Type 0 where
  pub whole : IsWhole T terms n q reading.graph.now
  pub count : length reading.z.items ≡ n
  pub is_rest : IsRest (meanings T.places T.value_of terms) shift reading.graph.now.bases
      reading.z.items
  pub signed : AreSigns reading.z.items reading.signs
  pub reached_are : AreReached reading.graph.now.unions.items reading.signs.under reading.reached
  pub leading_are : AreReached reading.graph.now.back.items reading.signs.over reading.leading
