-- The lines of a text by what each is to be, as the code writes and reads them one after another.
use Rattle.std.specs.Prelude.{ℕ, Bool, List, [], ◌∷◌, ◌++◌, codes, length, ℤ}
use Rattle.std.specs.Fmt.{signed_decimal}
use Rattle.sfm_cert.specs.Answer.{Form, listed}
use Rattle.sfm_cert.specs.LineLists.{row_line}
use Rattle.sfm_readback.specs.Slots.{Slot, exact, value, set, row, row_slots}
use Rattle.sfm_meet.specs.Met.{MetAnswer}

-- the four lines before the bases
abbrev pub told_head : List (List ℕ) → ℤ → List Bool → List ℤ → List (List ℕ)
told_head names v s x = codes "meet 1" ∷ (codes "value " ++ signed_decimal v)
    ∷ (codes "set" ++ listed names s) ∷ row_line (codes "common") [] x ∷ []

abbrev pub told_lines : List (List ℕ) → MetAnswer → List (List ℕ)
told_lines names a = told_head names a.value a.members a.common

-- what they are to be, with what is due behind them
abbrev pub told_slots : List (List ℕ) → List Slot → List Slot
told_slots names more = exact (codes "meet 1") ∷ value (codes "value ") ∷ set (codes "set") ∷ row
    (codes "common") [] (length names) ∷ more

-- the lines of the bases of the right sum, and the end
abbrev pub right_slots : Form → List Slot
right_slots right = row_slots (codes "right ") right.lines 1 right.widths ++ exact
    (codes "end") ∷ []

-- the lines of the bases of both sums, and the end
abbrev pub base_slots : Form → Form → List Slot
base_slots left right = row_slots (codes "left ") left.lines 1 left.widths ++ right_slots right

-- all lines
abbrev pub slots_of : Form → Form → List Slot
slots_of left right = told_slots left.names (base_slots left right)
