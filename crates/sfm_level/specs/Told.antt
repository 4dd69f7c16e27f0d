-- What the program keeps of a level text, and the lines that say it.
use Rattle.std.specs.Prelude.{◌≡◌, ℕ, List, [], ◌∷◌, ◌++◌, length, codes, ℤ, pos}
use Rattle.std.specs.List.{All}
use Rattle.std.specs.Fmt.{signed_decimal}
use Rattle.sfm_spec.specs.Bounds.{IsEntry}
use Rattle.sfm_spec.specs.Families.{Meaning, AreBases}
use Rattle.sfm_squares.specs.Level.{IsLevel, IsSumOf, squares}
use Rattle.sfm_cert.specs.Answer.{Form, row_lines, spaced}
use Rattle.sfm_cert.specs.Form.{AreFormedRows}
use Rattle.sfm_level.specs.declared.told.Level.{Level}

-- what a level text says: the least sum of squares, the base of the sum that has it, and the bases
-- of the terms
pub record LevelAnswer : Type 0 where
  pub squares : ℤ
  pub vector : List ℤ
  pub bases : List (List ℤ)

-- what the program keeps of it
abbrev pub level_of : Level → LevelAnswer
level_of l = record { squares = l.squares; vector = l.vector; bases = l.bases }

-- its lines, of a form as answers have one
abbrev pub level_lines : Form → LevelAnswer → List (List ℕ)
level_lines form a = codes "level 1" ∷ (codes "squares " ++ signed_decimal a.squares)
    ∷ (codes "vector" ++ spaced signed_decimal a.vector)
    ∷ (row_lines (codes "base ") form.lines 1 a.bases ++ codes "end" ∷ [])

-- what it says is true of the terms: bases of theirs add up to the vector, which is a most level
-- base of the sum
pub record IsTrueLevel (terms : List Meaning) (n : ℕ) (a : LevelAnswer) : Type 0 where
  pub bases : AreBases (pos 1) terms a.bases
  pub sum : IsSumOf terms n a.bases a.vector
  pub level : IsLevel terms n a.vector
  pub squares : a.squares ≡ squares a.vector

-- the numbers are small, and there is one for each element and each place
pub record IsFormedLevel (form : Form) (a : LevelAnswer) : Type 0 where
  pub squares : IsEntry a.squares
  pub count : length a.vector ≡ length form.names
  pub vector : All IsEntry a.vector
  pub bases : AreFormedRows form.widths a.bases
