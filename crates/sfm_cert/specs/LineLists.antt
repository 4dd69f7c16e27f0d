-- The lists of the numbers and of the lines of an answer, each by its own word: the code writes and
-- reads each one by one.
use Rattle.std.specs.Prelude.{ℕ, List, [], ◌∷◌, ◌++◌, codes, map, decimal, ℤ}
use Rattle.std.specs.List.{enumerate_from, flat_map}
use Rattle.std.specs.Fmt.{signed_decimal}
use Rattle.sfm_spec.specs.Blocks.{Block}
use Rattle.sfm_cert.specs.Answer.{Answer, Break, Form, answer_lines, block_line, listed, row_lines, section_lines, slope_line, spaced, text_of}
use Rattle.sfm_cert.specs.Form.{IsFormed}
use Rattle.sfm_cert.specs.Grammar.{IsBadLineOf, IsTextBy}
use Rattle.sfm_cert.specs.Labels.{label_in}

-- counts, each behind a space
abbrev pub counted : List ℕ → List ℕ
counted x = spaced decimal x

-- numbers, each behind a space
abbrev pub numbered : List ℤ → List ℕ
numbered x = spaced signed_decimal x

-- the four lines before the blocks
abbrev pub first_lines : Form → Answer → List (List ℕ)
first_lines form a = form.header ∷ (codes "minimum " ++ signed_decimal a.value)
    ∷ (codes "least" ++ listed form.names a.least)
    ∷ (codes "greatest" ++ listed form.names a.greatest) ∷ []

-- a line for each block, numbered on from i
abbrev pub block_lines : List (List ℕ) → ℕ → List Block → List (List ℕ)
block_lines names i blocks = map (λ (i, block). block_line names i block) (enumerate_from i blocks)

-- the lines of all slopes
abbrev pub slope_lines : List (List ℕ) → List Break → List (List ℕ)
slope_lines names breaks = map (slope_line names) breaks

-- the line of a row of numbers: a word, a label, and the numbers
abbrev pub row_line : List ℕ → List ℕ → List ℤ → List ℕ
row_line word label x = word ++ label ++ spaced signed_decimal x

-- the line of a base: the label of its term, and its entries
abbrev pub base_line : List ℕ → ℕ → List ℤ → List ℕ
base_line lines i x = row_line (codes "base ") (label_in lines i) x

-- a line for each base, counted on from i
abbrev pub base_lines : List ℕ → ℕ → List (List ℤ) → List (List ℕ)
base_lines lines i rows = row_lines (codes "base ") lines i rows

-- a section for each slope
abbrev pub break_lines : List ℕ → List Break → List (List ℕ)
break_lines lines breaks = flat_map (λ (b : Break). section_lines lines b.num b.den b.bases) breaks

-- the lines of an answer, each with a line feed behind it
abbrev pub answer_text : Form → Answer → List ℕ
answer_text form a = text_of (answer_lines form a)

-- the text of an answer of this form
abbrev pub IsAnswerText : Form → List ℕ → Answer → Type 0
IsAnswerText form text a = IsTextBy (IsFormed form) (answer_lines form) text a

-- the first bad line of a text that is to be one
abbrev pub IsBadLine : Form → List ℕ → ℕ → Type 0
IsBadLine form text number = IsBadLineOf (IsFormed form) (answer_lines form) text number
