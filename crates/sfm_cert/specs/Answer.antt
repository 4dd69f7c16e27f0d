-- What an answer says, and the lines that say it.
use Rattle.std.specs.Prelude.{ℕ, ◌+◌, ◌*◌, Bool, List, [], ◌∷◌, ◌++◌, map, codes, decimal, if◌then◌else◌, ℤ, pos}
use Rattle.std.specs.List.{enumerate_from, flat_map, zip}
use Rattle.std.specs.Fmt.{signed_decimal}
use Rattle.sfm_spec.specs.Blocks.{Block}
use Rattle.sfm_spec.specs.Laws.{Mark}
use Rattle.sfm_cert.specs.Labels.{label_in}

-- a slope, its set, and a base per term
pub record Break : Type 0 where
  pub num : ℤ
  pub den : ℤ
  pub members : List Bool
  pub bases : List (List ℤ)

-- what an answer says: the least value, the extreme minimisers, the blocks, the bases at 0/1, and the slopes with their sets and bases
pub record Answer : Type 0 where
  pub value : ℤ
  pub least : List Bool
  pub greatest : List Bool
  pub blocks : List Block
  pub bases : List (List ℤ)
  pub breaks : List Break

-- what the lines depend on besides: the words of the first line, the names of the ground, how many layers each line of terms has,
-- and how many elements each term
pub record Form : Type 0 where
  pub header : List ℕ
  pub names : List (List ℕ)
  pub lines : List ℕ
  pub widths : List ℕ

-- a space and the name of each member, in the order of the ground
abbrev pub listed : List (List ℕ) → List Bool → List ℕ
listed names s = flat_map (λ (name, is_in). if is_in then 32 ∷ name else []) (zip names s)

-- numbers, each behind a space, by the text of each
abbrev pub spaced : {X : Type 0} → (X → List ℕ) → List X → List ℕ
spaced text xs = flat_map (λ x. 32 ∷ text x) xs

-- a slope as its two numbers with a `/` between
abbrev pub slope_text : ℤ → ℤ → List ℕ
slope_text p q = signed_decimal p ++ codes "/" ++ signed_decimal q

-- the line of a block: its number, its names, a colon, and the numbers of the blocks that it needs
abbrev pub block_line : List (List ℕ) → ℕ → Block → List ℕ
block_line names i block = codes "block " ++ decimal i ++ listed names block.members ++ codes " :" ++ spaced decimal block.needs

-- the line of a slope: the slope, and the names of its set
abbrev pub slope_line : List (List ℕ) → Break → List ℕ
slope_line names b = codes "slope " ++ slope_text b.num b.den ++ listed names b.members

-- the answer lines, what is due whoever writes them: the least value, the extreme minimisers, and a line for each block,
-- numbered from 1, and for each slope
abbrev pub head_lines : Form → Answer → List (List ℕ)
head_lines form a = form.header ∷ (codes "minimum " ++ signed_decimal a.value) ∷ (codes "least" ++ listed form.names a.least)
    ∷ (codes "greatest" ++ listed form.names a.greatest)
    ∷ (map (λ (i, block). block_line form.names i block) (enumerate_from 1 a.blocks) ++ map (slope_line form.names) a.breaks)

-- the line that a section begins with
abbrev pub at_line : ℤ → ℤ → List ℕ
at_line p q = codes "at " ++ slope_text p q

-- a line for each row, with the label of its term, counted on from i, of lines with so many layers
abbrev pub row_lines : List ℕ → List ℕ → ℕ → List (List ℤ) → List (List ℕ)
row_lines word lines i rows = map (λ (i, x). word ++ label_in lines i ++ spaced signed_decimal x) (enumerate_from i rows)

-- the lines of a section: its slope, and a base for each term
abbrev pub section_lines : List ℕ → ℤ → ℤ → List (List ℤ) → List (List ℕ)
section_lines lines p q rows = at_line p q ∷ row_lines (codes "base ") lines 1 rows

-- the lines of an answer: what it says, the bases at 0/1, the bases at each slope, and the end
abbrev pub answer_lines : Form → Answer → List (List ℕ)
answer_lines form a = head_lines form a ++ section_lines form.lines (pos 0) (pos 1) a.bases
    ++ flat_map (λ (b : Break). section_lines form.lines b.num b.den b.bases) a.breaks ++ codes "end" ∷ []

-- lines, each with a line feed behind it
abbrev pub text_of : List (List ℕ) → List ℕ
text_of [] = []
text_of (line ∷ lines) = line ++ (10 ∷ text_of lines)

-- the slope and the set of a breakpoint
abbrev pub mark_of : Break → Mark
mark_of b = record { num = b.num; den = b.den; members = b.members }

-- the line of a section, with k block lines, j slope lines and m terms: 0 is that of 0/1, and the slopes follow; that of its base i,
-- counted from 1, stands i lines below
abbrev pub line_at : ℕ → ℕ → ℕ → ℕ → ℕ
line_at k j m s = 5 + k + j + s * (m + 1)
