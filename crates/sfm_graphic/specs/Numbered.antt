-- Vertices numbered without gaps, in the order in which they first stand among the ends of the
-- edges, and edges as demands on their ends.
use Rattle.std.proofs.Common.{◌≡◌, ◌⊎◌, ℕ, ◌<◌, List, [], ◌∷◌, ◌++◌, length, map, nat_eq, ℤ, pos, replicate, set, if◌then◌else◌}
use Rattle.std.specs.List.{position_or_len}
use Rattle.sfm_spec.specs.Kinds.{Edge}
use Rattle.sfm_graphic.specs.Cuts.{IsWithinEnds}
use Rattle.sfm_graphic.specs.Graphs.{edge_at}

-- where v first stands in a list; its length where it does not
abbrev pub place_of : List ℕ → ℕ → ℕ
place_of vertices v = position_or_len (λ u. nat_eq u v) vertices

-- v behind a list, unless it stands there
abbrev pub with_vertex : List ℕ → ℕ → List ℕ
with_vertex vertices v = if nat_eq (place_of vertices v) (length vertices) then vertices ++ v ∷ []
    else vertices

-- the ends of edges behind a list, tail before head, but those that stand before
abbrev pub vertices_after : List ℕ → List Edge → List ℕ
vertices_after vertices [] = vertices
vertices_after vertices (edge ∷ edges) =
    vertices_after (with_vertex (with_vertex vertices edge.tail) edge.head) edges

-- the ends of edges, each once, in the order in which they first stand, and how many they are
abbrev pub vertices_of : List Edge → List ℕ
vertices_of edges = vertices_after [] edges

abbrev pub vertex_count : List Edge → ℕ
vertex_count edges = length (vertices_of edges)

-- the number of v: how many ends first stand before it
abbrev pub number : List Edge → ℕ → ℕ
number edges v = place_of (vertices_of edges) v

abbrev pub renumbered : (ℕ → ℕ) → Edge → Edge
renumbered f edge = record { tail = f edge.tail; head = f edge.head }

-- the edges with the numbers of their ends
abbrev pub numbered : List Edge → List Edge
numbered edges = map (renumbered (number edges)) edges

-- v is an end of the edge e
abbrev pub IsEndOf : List Edge → ℕ → ℕ → Type 0
IsEndOf edges e v = (v ≡ (edge_at edges e).tail) ⊎ (v ≡ (edge_at edges e).head)

-- v is an end of an edge
abbrev pub IsEnd : List Edge → ℕ → Type 0
IsEnd edges v = (e : ℕ) × (e < length edges) × IsEndOf edges e v

-- v is the tail of an edge
abbrev pub IsTail : List Edge → ℕ → Type 0
IsTail edges v = (e : ℕ) × (e < length edges) × (v ≡ (edge_at edges e).tail)

-- no set of edges gets more than c for each of its ends but one, of m vertices, whichever tail that
-- is
abbrev pub PassesTails : List Edge → ℕ → ℤ → List ℤ → Type 0
PassesTails edges m c x = (a : ℕ) → a < m → IsTail edges a → IsWithinEnds edges m c x a

-- ---- edges as demands

-- the two ends of each edge
abbrev pub ends_of : Edge → List ℕ
ends_of edge = edge.tail ∷ edge.head ∷ []

abbrev pub end_lists : List Edge → List (List ℕ)
end_lists edges = map ends_of edges

-- c at each of m vertices but a
abbrev pub vertex_capacities : ℕ → ℤ → ℕ → List ℤ
vertex_capacities m c a = set (replicate m c) a (pos 0)
