-- The text that tells a greatest common vector of two sums, with the bases that prove it.
use Rattle.std.specs.Prelude.{◌≡◌, ℕ, List, [], ◌∷◌, ◌++◌, length, codes}
use Rattle.std.specs.List.{All}
use Rattle.std.specs.Fmt.{signed_decimal}
use Rattle.sfm_spec.specs.Bounds.{IsEntry}
use Rattle.sfm_cert.specs.Answer.{Form, listed, row_lines, spaced}
use Rattle.sfm_cert.specs.Form.{AreFormedRows}
use Rattle.sfm_meet.specs.Met.{MetAnswer}

-- its lines: the least value, the least set, the common vector, and a line for each base of the left and then of the right
abbrev pub met_lines : Form → Form → MetAnswer → List (List ℕ)
met_lines left right a = codes "meet 1" ∷ (codes "value " ++ signed_decimal a.value) ∷ (codes "set" ++ listed left.names a.members)
    ∷ (codes "common" ++ spaced signed_decimal a.common)
    ∷ (row_lines (codes "left ") left.lines 1 a.left ++ row_lines (codes "right ") right.lines 1 a.right ++ codes "end" ∷ [])

-- the numbers are small, and there is one for each element and each place of a term
pub record IsFormedMet (left right : Form) (a : MetAnswer) : Type 0 where
  pub value : IsEntry a.value
  pub members : length a.members ≡ length left.names
  pub count : length a.common ≡ length left.names
  pub common : All IsEntry a.common
  pub left_rows : AreFormedRows left.widths a.left
  pub right_rows : AreFormedRows right.widths a.right
