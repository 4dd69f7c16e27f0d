-- The labels of a line by their numbers: those of a graphic rank are the ends of edges, those of a transversal rank the
-- slots of entries.
use Rattle.std.specs.Prelude.{ℕ, not, List, [], ◌∷◌, map, slice_index_or, bytes_eq}
use Rattle.std.specs.List.{filter, flat_map, position_or_len}
use Rattle.sfm_spec.specs.Kinds.{Edge}

-- each text once, where it stands first
abbrev pub distinct_of : List (List ℕ) → List (List ℕ)
distinct_of [] = []
distinct_of (text ∷ texts) = text ∷ filter (λ other. not (bytes_eq text other)) (distinct_of texts)

-- the numbers of the labels: equal labels of a line have one number, and they are numbered as they first appear in it
abbrev pub numbers_of : List (List (List ℕ)) → List (List ℕ)
numbers_of lists = map (λ labels. map (λ text. position_or_len (λ other. bytes_eq text other) (distinct_of (flat_map (λ texts. texts) lists))) labels) lists

-- the edge from the first of two vertices to the second
abbrev pub edge_between : List ℕ → Edge
edge_between ends = record { tail = slice_index_or ends 0 0; head = slice_index_or ends 1 0 }
