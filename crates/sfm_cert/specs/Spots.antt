-- Where a walk over the terms of an instance stands, line by line and layer by layer.
use Rattle.std.specs.Prelude.{◌≡◌, ℕ, zero, suc, ◌+◌, ◌-◌, ◌<◌, ◌≤◌, List, [], ◌∷◌, ◌++◌, map, codes, decimal, drop, length, slice_index_or}
use Rattle.std.specs.List.{enumerate_from, flat_map, range_with_len}
use Rattle.sfm_cert.specs.Labels.{labels_in, labels_of}
use Rattle.sfm_cert.specs.declared.spot.Spot.{Spot}

-- the label of a layer of a line; layer 0 is the one term of a line without layers
abbrev pub label_text : ℕ → ℕ → List ℕ
label_text line zero = decimal line
label_text line (suc j) = decimal line ++ codes "." ++ decimal (suc j)

-- that of a spot
abbrev pub spot_label : Spot → List ℕ
spot_label spot = label_text (spot.before + 1) spot.layer

-- the labels of lines that are numbered from k on
abbrev pub labels_from : ℕ → List ℕ → List (List ℕ)
labels_from k lines = flat_map (λ (line, layers). labels_in line layers) (enumerate_from k lines)

-- those from a layer of the first of these lines on
abbrev pub labels_left : ℕ → ℕ → List ℕ → List (List ℕ)
labels_left line layer [] = []
labels_left line layer (layers ∷ lines) =
    map (label_text line) (range_with_len layer (layers + 1 - layer)) ++ labels_from (line + 1)
    lines

-- so many terms stand before the spot, which is that of the next one
pub record StandsAt (lines : List ℕ) (i : ℕ) (spot : Spot) : Type 0 where
  pub within : spot.before < length lines → spot.layer ≤ slice_index_or lines spot.before 0
  pub left : labels_left (spot.before + 1) spot.layer (drop spot.before lines) ≡ drop i
      (labels_of lines)
