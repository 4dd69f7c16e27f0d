-- Edges as they are kept: the pairs of their ends, and the labels of these.
use Rattle.std.proofs.Common.{ℕ, List, map, get_or}
use Rattle.sfm_spec.specs.Kinds.{Edge}
use Rattle.sfm_graphic.specs.Graphs.{renamed}

-- the edge from the first end to the second
abbrev pub edge_of : ℕ × ℕ → Edge
edge_of pair = record { tail = pair.0; head = pair.1 }

abbrev pub edges_of : List (ℕ × ℕ) → List Edge
edges_of pairs = map edge_of pairs

-- both labels, where what had the label b gets the label a
abbrev pub both_renamed : ℕ → ℕ → ℕ × ℕ → ℕ × ℕ
both_renamed b a pair = (renamed b a pair.0, renamed b a pair.1)

abbrev pub labels_at : List (ℕ × ℕ) → ℕ → ℕ × ℕ
labels_at labels e = get_or labels e (0, 0)
