-- The exchange graph of q times some terms at bases of theirs.
use Rattle.std.specs.Prelude.{◌≡◌, ℕ, ◌<◌, List, length, map, ℤ}
use Rattle.std.specs.List.{All}
use Rattle.sfm_law.specs.declared.term.Term.{Ghosts}
use Rattle.sfm_spec.specs.Bounds.{AreBounded, IsEntry, IsFactor}
use Rattle.sfm_spec.specs.Terms.{times}
use Rattle.sfm_spec.specs.Families.{meanings, AreBases}
use Rattle.sfm_spec.specs.Walks.{term_at, base_at}
use Rattle.sfm_exchange.specs.declared.graph.Graph.{Graph}
use Rattle.sfm_reach.specs.Bits.{set_at}
use Rattle.sfm_exchange.specs.Claimed.{AreClaims}
use Rattle.sfm_exchange.specs.Sums.{AreSums}
use Rattle.sfm_reach.specs.Spots.{AreSpots}
use Rattle.sfm_reach.specs.Reach.{AreNotes, AreSized, IsTable, kept_fits, table_at}
use Rattle.sfm_reach.specs.Turned.{AreTurned}
use Rattle.sfm_reach.specs.Unions.{AreUnions}

-- the graph is one of q times the terms over n places: its rows are bases, which add up to its
-- sums, the note of each that has one fits it, there is a row for each place of each term, which
-- tells the steps by the term, and a set of its claimed places for each term; the spots of each
-- place are those of the terms, the adjacency of each place is the union of the rows of its spots,
-- and the same is told backwards
pub record IsGraph {X N : Type 0} (T : Ghosts X N) (terms : List X) (n : ℕ) (q : ℤ)
    (graph : Graph N) : Type 0 where
  pub are_bases : AreBases q (meanings T.places T.value_of terms) graph.bases
  pub are_sums : AreSums (meanings T.places T.value_of terms) n graph.bases graph.sums.items
  pub note_count : length graph.notes.items ≡ length terms
  pub claim_count : length graph.claimed.items ≡ length terms
  pub noted : AreNotes (kept_fits T.fits) q terms graph.notes.items graph.bases
  pub sized_rows : AreSized (map T.places terms) graph.rows.items
  pub tables : (i : ℕ) → i < length terms
      → IsTable (meanings T.places T.value_of terms) q graph.bases i (table_at graph.rows.items i)
  pub are_spots : AreSpots (meanings T.places T.value_of terms) n graph.spots.items
  pub are_unions : AreUnions graph.rows.items graph.spots.items graph.unions.items
  pub are_turned : AreTurned graph.unions.items graph.back.items

-- the same, and the terms and the factor are within the bounds
pub record IsWhole {X N : Type 0} (T : Ghosts X N) (terms : List X) (n : ℕ) (q : ℤ)
    (graph : Graph N) : Type 0 where
  pub bounded : AreBounded n (map T.places terms) (map T.size_of terms)
  pub factor : IsFactor q
  pub exact : IsGraph T terms n q graph

-- the same, where the rows of the claimed places may tell more steps than there are
pub record IsClaimed {X N : Type 0} (T : Ghosts X N) (terms : List X) (n : ℕ) (q : ℤ)
    (graph : Graph N) : Type 0 where
  pub bounded : AreBounded n (map T.places terms) (map T.size_of terms)
  pub factor : IsFactor q
  pub are_bases : AreBases q (meanings T.places T.value_of terms) graph.bases
  pub are_sums : AreSums (meanings T.places T.value_of terms) n graph.bases graph.sums.items
  pub note_count : length graph.notes.items ≡ length terms
  pub claim_count : length graph.claimed.items ≡ length terms
  pub noted : AreNotes (kept_fits T.fits) q terms graph.notes.items graph.bases
  pub sized_rows : AreSized (map T.places terms) graph.rows.items
  pub claims : (i : ℕ) → i < length terms
      → AreClaims (term_at (meanings T.places T.value_of terms) i).places
      (times q (term_at (meanings T.places T.value_of terms) i).value) (base_at graph.bases i)
      (set_at graph.claimed.items i) (table_at graph.rows.items i)
  pub are_spots : AreSpots (meanings T.places T.value_of terms) n graph.spots.items
  pub are_unions : AreUnions graph.rows.items graph.spots.items graph.unions.items
  pub are_turned : AreTurned graph.unions.items graph.back.items

-- such a graph over the places that it has spots for, whose bases have small entries
pub record IsReady {X N : Type 0} (T : Ghosts X N) (terms : List X) (q : ℤ) (graph : Graph N) : Type
    0 where
  pub claimed : IsClaimed T terms (length graph.spots.items) q graph
  pub small : All (λ x. All IsEntry x) graph.bases

-- such a graph over the places that another one has spots for, and at the bases of that
pub record IsStill {X N : Type 0} (T : Ghosts X N) (terms : List X) (q : ℤ)
    (before after : Graph N) : Type 0 where
  pub claimed : IsClaimed T terms (length before.spots.items) q after
  pub bases : after.bases ≡ before.bases

-- the lists of a graph of the terms over n places, whatever its bases and its rows are: the spots
-- of each place are those of the terms, there is a row for each place of each term, a set of
-- claimed places for each term, and a set of the places that arcs lead to for each place, and as
-- many sets of those that arcs come from as places may be; what is kept fits some bases
pub record IsShaped {X N : Type 0} (T : Ghosts X N) (terms : List X) (n : ℕ)
    (graph : Graph N) : Type 0 where
  pub are_spots : AreSpots (meanings T.places T.value_of terms) n graph.spots.items
  pub sized_rows : AreSized (map T.places terms) graph.rows.items
  pub claim_count : length graph.claimed.items ≡ length terms
  pub note_count : length graph.notes.items ≡ length terms
  pub noted : (q : ℤ) × (bases : List (List ℤ))
      × AreNotes (kept_fits T.fits) q terms graph.notes.items bases
  pub union_count : length graph.unions.items ≡ n
  pub back_count : length graph.back.items ≡ 256
