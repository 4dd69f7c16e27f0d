-- What the parts of an answer text hold, once read.
use Rattle.std.specs.Prelude.{◌≡◌, ℕ, ◌+◌, ◌<◌, ◌≤◌, List, [], ◌∷◌, ◌++◌, codes, length, map, ℤ, Bool}
use Rattle.std.specs.List.{All}
use Rattle.std.specs.Fmt.{signed_decimal}
use Rattle.sfm_spec.specs.Bounds.{IsEntry}
use Rattle.sfm_spec.specs.Blocks.{Block, block_at}
use Rattle.sfm_cert.specs.Answer.{Break, Form, listed}
use Rattle.sfm_cert.specs.LineLists.{block_lines, slope_lines, base_lines, break_lines}
use Rattle.sfm_cert.specs.Form.{IsFormedBlock, IsFormedBreak, AreFormedRows}
use Rattle.sfm_readback.specs.Lines.{Ratio, ratio_of, IsSlopeLine}
use Rattle.sfm_readback.specs.Reading.{header, listing, bases, Reads}
use Rattle.sfm_readback.specs.declared.cursor.Cursor.{Cursor}

-- the block lines
pub record ReadsBlocks (form : Form) (text : List ℕ) (from to : Cursor) (blocks : List Block) : Type
    0 where
  pub reads : Reads form text from to (listing 0 []) (listing (length blocks) [])
      (block_lines form.names 1 blocks)
  pub formed : (i : ℕ) → i < length blocks → IsFormedBlock (length form.names) i (block_at blocks i)

-- the slope lines, behind any blocks
pub record ReadsHeads (form : Form) (text : List ℕ) (from to : Cursor) (heads : List Break) : Type
    0 where
  pub within : to.at ≤ length text
  pub reads : (k : ℕ) → Reads form text from to (listing k []) (listing k (map ratio_of heads))
      (slope_lines form.names heads)
  pub formed : All (λ b. (line : List ℕ) × IsSlopeLine form.names line (ratio_of b) b.members) heads
  pub stay : heads ≡ [] → to.at ≡ from.at

-- a base line for each term, whatever is due behind them
pub record ReadsRows (form : Form) (text : List ℕ) (from to : Cursor) (rows : List (List ℤ)) : Type
    0 where
  pub within : to.at ≤ length text
  pub reads : (due : List Ratio)
      → Reads form text from to (bases 1 form.widths due) (bases (length rows + 1) [] due)
      (base_lines form.lines 1 rows)
  pub formed : AreFormedRows form.widths rows

-- a section for each slope
pub record ReadsBreaks (form : Form) (text : List ℕ) (from to : Cursor) (heads due : List Break)
    (breaks : List Break) : Type 0 where
  pub within : to.at ≤ length text
  pub reads : (i : ℕ) → (j : ℕ) × Reads form text from to (bases i [] (map ratio_of heads))
      (bases j [] (map ratio_of due)) (break_lines form.lines breaks)

-- the breaks have the slope lines of the heads, and are of good form
pub record AreBreaksOf (form : Form) (heads breaks : List Break) : Type 0 where
  pub same : slope_lines form.names breaks ≡ slope_lines form.names heads
  pub formed : All (IsFormedBreak (length form.names) form.widths) breaks

-- what a slope line can say
abbrev pub AreHeads : Form → List Break → Type 0
AreHeads form heads = All (λ b. (line : List ℕ)
    × IsSlopeLine form.names line (ratio_of b) b.members) heads

-- the first four lines
pub record ReadsFirst (form : Form) (text : List ℕ) (from to : Cursor) (value : ℤ)
    (low high : List Bool) : Type 0 where
  pub reads : Reads form text from to header (listing 0 [])
      (form.header ∷ (codes "minimum " ++ signed_decimal value)
      ∷ (codes "least" ++ listed form.names low) ∷ (codes "greatest" ++ listed form.names high)
      ∷ [])
  pub small : IsEntry value
  pub places_low : length low ≡ length form.names
  pub places_high : length high ≡ length form.names
