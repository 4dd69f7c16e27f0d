-- Texts of which each line is known beforehand but for its number, set or numbers.
use Rattle.std.specs.Prelude.{◌≡◌, ℕ, Bool, List, [], ◌∷◌, ◌+◌, ℤ}
use Rattle.sfm_cert.specs.Grammar.{IsLine}
use Rattle.sfm_cert.specs.Labels.{label_in}
use Rattle.sfm_readback.specs.Lines.{IsValueLine, IsSetLine, IsRowLine}

-- what a line is to be
pub data Slot : Type 0 where
  -- this line
  exact : List ℕ → Slot
  -- a word and a number
  value : List ℕ → Slot
  -- a word and a list of names
  set : List ℕ → Slot
  -- a word, a label and so many numbers
  row : List ℕ → List ℕ → ℕ → Slot

-- the line is what the slot asks for
abbrev pub Fills : List (List ℕ) → Slot → List ℕ → Type 0
Fills names (exact text) line = line ≡ text
Fills names (value word) line = (v : ℤ) × IsValueLine word line v
Fills names (set word) line = (s : List Bool) × IsSetLine word names line s
Fills names (row word label width) line = (x : List ℤ) × IsRowLine word label width line x

-- the rule of such texts: a line fills the first slot that is due, and leaves those behind it
abbrev pub FillsNext : List (List ℕ) → List Slot → List ℕ → List Slot → Type 0
FillsNext names [] line left = ⊥
FillsNext names (slot ∷ slots) line left = IsLine line × Fills names slot line × (left ≡ slots)

-- no word or label of the slot holds a line feed
abbrev pub IsCleanSlot : Slot → Type 0
IsCleanSlot (exact text) = IsLine text
IsCleanSlot (value word) = IsLine word
IsCleanSlot (set word) = IsLine word
IsCleanSlot (row word label width) = IsLine word × IsLine label

-- slots for rows, with the labels of terms, counted on from i, of lines with so many layers
abbrev pub row_slots : List ℕ → List ℕ → ℕ → List ℕ → List Slot
row_slots word lines i [] = []
row_slots word lines i (width ∷ widths) = row word (label_in lines i) width ∷ row_slots word lines
    (i + 1) widths
