-- The labels of base lines: which term of an instance each is for.
use Rattle.std.specs.Prelude.{ℕ, zero, suc, List, [], ◌∷◌, ◌++◌, map, codes, decimal, slice_index_or}
use Rattle.std.specs.List.{enumerate_from, flat_map, range_with_len}

-- the labels of the terms of a line: its number, and in one with layers, behind a point, the number of each
abbrev pub labels_in : ℕ → ℕ → List (List ℕ)
labels_in line zero = decimal line ∷ []
labels_in line (suc n) = map (λ j. decimal line ++ codes "." ++ decimal j) (range_with_len 1 (suc n))

-- the labels of all terms, of lines with so many layers, which are numbered from 1
abbrev pub labels_of : List ℕ → List (List ℕ)
labels_of lines = flat_map (λ (line, layers). labels_in line layers) (enumerate_from 1 lines)

-- the label of term i, counted from 1
abbrev pub label_in : List ℕ → ℕ → List ℕ
label_in lines i = slice_index_or ([] ∷ labels_of lines) i []
