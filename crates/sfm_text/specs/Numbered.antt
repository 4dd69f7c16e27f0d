-- The numbers of the lines of a good instance text.
use Rattle.std.specs.Prelude.{◌≡◌, ℕ, List, [], ◌∷◌, ◌++◌, map, replicate, zip}
use Rattle.std.specs.List.{flat_map}
use Rattle.sfm_kind.specs.Instance.{width_of}
use Rattle.sfm_lines.specs.Lines.{content_of}

-- of an item for each of the term lines, one for each of their terms, of lines with so many layers
abbrev pub for_terms : {X : Type 0} → List ℕ → List X → List X
for_terms layers items = flat_map (λ (n, item). replicate (width_of n) item) (zip layers items)

-- the number of the ground line, and for each term that of its line, of lines with so many layers: the content lines are the header,
-- the ground line, the term lines and the line `end`
abbrev pub AreNumbersOf : List ℕ → ℕ → List ℕ → List ℕ → Type 0
AreNumbersOf text ground_line layers terms = (header : ℕ) × (between : List ℕ) × (last : ℕ) × (map (λ line. line.0) (content_of text) ≡ header ∷ ground_line ∷ (between ++ last ∷ [])) × (terms ≡ for_terms layers between)
