-- Edges taken one after another unless they close a trail: the ends of a taken edge get one label,
-- and an edge whose ends have one label is not taken. How many are taken of a set is its rank. Its
-- weighted rank, and the base that the taken edges give. Textbook: Schrijver, Combinatorial
-- Optimization, sections 39 and 50 (Kruskal's method).
use Rattle.std.proofs.Common.{ℕ, zero, suc, ◌<◌, Bool, true, false, not, ◌&&◌, List, length, get_or, set, nat_eq, if◌then◌else◌, ℤ, pos, ◌*ℤ◌}
use Rattle.sfm_spec.specs.Sets.{empty_set, size, whole_set}
use Rattle.sfm_spec.specs.Kinds.{Edge, no_edge}
use Rattle.sfm_spec.specs.Terms.{SetFunction}
use Rattle.sfm_rank.specs.Terms.{at_places, rank_value}

abbrev pub edge_at : List Edge → ℕ → Edge
edge_at edges n = get_or edges n no_edge

-- what had the label b gets the label a
abbrev pub renamed : ℕ → ℕ → ℕ → ℕ
renamed b a l = if nat_eq l b then a else l

-- the labels after those edges of s that are numbered below n
abbrev pub label : List Edge → List Bool → ℕ → ℕ → ℕ
label edges s zero x = x
label edges s (suc n) x = if get_or s n false then renamed (label edges s n (edge_at edges n).tail)
    (label edges s n (edge_at edges n).head) (label edges s n x) else label edges s n x

-- the edge n of s is taken: its ends are not joined before
abbrev pub takes : List Edge → List Bool → ℕ → Bool
takes edges s n = get_or s n false && not
    (nat_eq (label edges s n (edge_at edges n).tail) (label edges s n (edge_at edges n).head))

-- the edges of s below n that are taken
abbrev pub taken : List Edge → List Bool → ℕ → List Bool
taken edges s zero = empty_set (length edges)
taken edges s (suc n) = if takes edges s n then set (taken edges s n) n true else taken edges s n

-- each end of each edge is one of m vertices
abbrev pub EndsBelow : List Edge → ℕ → Type 0
EndsBelow edges m = (e : ℕ) → e < length edges → ((edge_at edges e).tail < m)
    × ((edge_at edges e).head < m)

-- how many edges are taken of a set
abbrev pub graphic_rank : List Edge → List Bool → ℕ
graphic_rank edges s = size (taken edges s (length edges))

abbrev pub graphic_value : ℤ → List Edge → SetFunction
graphic_value w edges = rank_value w (graphic_rank edges)

-- the edges that are taken one after another when all may be: a greatest forest
abbrev pub graphic_basis : List Edge → List Bool
graphic_basis edges = taken edges (whole_set (length edges)) (length edges)

-- the greatest value: that of all edges
abbrev pub graphic_size : ℤ → List Edge → ℤ
graphic_size w edges = w *ℤ pos (size (graphic_basis edges))

-- q·w at each edge of the greatest forest
abbrev pub graphic_start : ℤ → ℤ → List Edge → List ℤ
graphic_start q w edges = at_places (q *ℤ w) (graphic_basis edges)
