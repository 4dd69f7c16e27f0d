-- The text of sizes: how much each element of a ground counts.
use Rattle.std.specs.Prelude.{◌≡◌, ◌≢◌, ◌⊎◌, ℕ, ◌^◌, List, ◌∷◌, length, map, fold, set, zip, replicate, slice_get, codes, Any, Contains, Option, Some, None, unwrap_or, ℤ, pos, ◌≤ℤ◌, ◌<ℤ◌}
use Rattle.std.specs.List.{AllZip}
use Rattle.sfm_spec.specs.Bounds.{total_of}
use Rattle.sfm_spec.specs.Names.{IsName}
use Rattle.sfm_base.specs.NumberText.{IsNumber}
use Rattle.sfm_lines.specs.declared.reason.Reason.{Reason}
use Rattle.sfm_lines.specs.declared.reason.Reason.TheVariants.{Word, Shape, Number, Name, Twice, Total}
use Rattle.sfm_lines.specs.Parts.{LineParts, IsWeightLine}
use Rattle.sfm_lines.specs.TermLines.{StandsTwice}
use Rattle.sfm_side.specs.Side.{SideForm}

-- an element that is not named has the size 1
abbrev pub sizes_of : List (Option ℤ) → List ℤ
sizes_of given = map (λ size. unwrap_or size (pos 1)) given

-- the line is `size`, and pairs of names and numbers, of whose parts something holds
abbrev pub HasSizeLine : List (List ℕ) → (LineParts → Type 0) → Type 0
HasSizeLine tokens P = (parts : LineParts)
    × ((rest : List (List ℕ)) × (tokens ≡ codes "size" ∷ rest) × IsWeightLine rest parts) × P parts

-- a size that may be written: the text of a number from 1 to 1,000,000
abbrev pub IsSize : List ℕ → ℤ → Type 0
IsSize text value = IsNumber text value × (pos 1 ≤ℤ value) × (value ≤ℤ pos (10 ^ 6))

-- the sizes that are known behind a size line: each number is that of its element
abbrev pub GivesSizes : List (List ℕ) → List (Option ℤ) → LineParts → List (Option ℤ) → Type 0
GivesSizes names given parts after = (places : List ℕ) × (values : List ℤ)
    × AllZip (λ text e. slice_get names e ≡ Some text) parts.elements places
    × AllZip IsSize parts.numbers values
    × (after ≡ fold (λ sizes (e, size). set sizes e (Some size)) given (zip places values))

-- the reasons of a line with these tokens, over a ground of these names, where these sizes are known. Twice: an element
-- stands twice in it, or was named before. Total: the sizes of all elements then add to more than 1,000,000
abbrev pub HasInSizes : List (List ℕ) → List (Option ℤ) → List (List ℕ) → Reason → Type 0
HasInSizes names given tokens Word = (rest : List (List ℕ)) → tokens ≢ codes "size" ∷ rest
HasInSizes names given tokens Shape = (rest : List (List ℕ)) × (tokens ≡ codes "size" ∷ rest)
    × ((parts : LineParts) → IsWeightLine rest parts → ⊥)
HasInSizes names given tokens Number =
    HasSizeLine tokens (λ parts. Any (λ text. (value : ℤ) → IsSize text value → ⊥) parts.numbers)
HasInSizes names given tokens Name =
    HasSizeLine tokens (λ parts. Any (λ text. IsName text → Contains names text → ⊥) parts.elements)
HasInSizes names given tokens Twice = HasSizeLine tokens (λ parts. StandsTwice parts.elements
    ⊎ Any (λ text. (e : ℕ) × (size : ℤ) × (slice_get names e ≡ Some text)
    × (slice_get given e ≡ Some (Some size))) parts.elements)
HasInSizes names given tokens Total = HasSizeLine tokens (λ parts. (after : List (Option ℤ))
    × GivesSizes names given parts after × (pos (10 ^ 6) <ℤ total_of (sizes_of after)))
HasInSizes names given tokens reason = ⊥

-- texts of sizes over a ground of these names
abbrev pub sizes_form : List (List ℕ) → SideForm (List (Option ℤ))
sizes_form names = record {
  word = codes "sizes";
  nothing = replicate (length names) None;
  HasIn = HasInSizes names;
  Says = λ given tokens after. HasSizeLine tokens (λ parts. GivesSizes names given parts after);
}
