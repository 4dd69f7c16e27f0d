-- The lines of an answer, one kind at a time, and what each says.
use Rattle.std.specs.Prelude.{◌≡◌, ℕ, ◌+◌, Bool, List, ◌++◌, codes, length, ℤ}
use Rattle.std.specs.Fmt.{signed_decimal}
use Rattle.std.specs.List.{All}
use Rattle.sfm_spec.specs.Bounds.{IsEntry, IsFactor}
use Rattle.sfm_spec.specs.Blocks.{Block}
use Rattle.sfm_spec.specs.Slopes.{IsLowest}
use Rattle.sfm_cert.specs.Answer.{Break, listed, slope_text, block_line}
use Rattle.sfm_cert.specs.Form.{IsFormedBlock, IsSomeSet}
use Rattle.sfm_cert.specs.LineLists.{row_line}
use Rattle.sfm_readback.specs.declared.head.Head.{Head}

-- a word and a number
abbrev pub IsValueLine : List ℕ → List ℕ → ℤ → Type 0
IsValueLine word line v = IsEntry v × (line ≡ word ++ signed_decimal v)

abbrev pub IsMinimumLine : List ℕ → ℤ → Type 0
IsMinimumLine line v = IsValueLine (codes "minimum ") line v

-- a word and a list of names
abbrev pub IsSetLine : List ℕ → List (List ℕ) → List ℕ → List Bool → Type 0
IsSetLine word names line s = (length s ≡ length names) × (line ≡ word ++ listed names s)

-- the line of the block behind i others
abbrev pub IsBlockLine : List (List ℕ) → ℕ → List ℕ → Block → Type 0
IsBlockLine names i line block = IsFormedBlock (length names) i block
    × (line ≡ block_line names (i + 1) block)

-- a number over a number
pub record Ratio : Type 0 where
  pub num : ℤ
  pub den : ℤ

abbrev pub ratio_of : Break → Ratio
ratio_of b = record { num = b.num; den = b.den }

pub record IsSlopeLine (names : List (List ℕ)) (line : List ℕ) (r : Ratio) (s : List Bool) : Type
    0 where
  pub lowest : IsLowest r.num r.den
  pub entry : IsEntry r.num
  pub factor : IsFactor r.den
  pub members : IsSomeSet (length names) s
  pub written : line ≡ codes "slope " ++ slope_text r.num r.den ++ listed names s

-- a word, a label and so many numbers
abbrev pub IsRowLine : List ℕ → List ℕ → ℕ → List ℕ → List ℤ → Type 0
IsRowLine word label width line x = (length x ≡ width) × All IsEntry x
    × (line ≡ row_line word label x)

-- the line of a base by its label, which has so many numbers
abbrev pub IsBaseLine : List ℕ → ℕ → List ℕ → List ℤ → Type 0
IsBaseLine label width line x = IsRowLine (codes "base ") label width line x

abbrev pub ratio_of_head : Head → Ratio
ratio_of_head h = record { num = h.slope.num; den = h.slope.den }
