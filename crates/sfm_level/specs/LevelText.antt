-- What a level text says.
use Rattle.std.specs.Prelude.{◌≡◌, ℕ, List, [], ◌∷◌, ◌++◌, codes, ℤ, pos}
use Rattle.std.specs.Fmt.{signed_decimal}
use Rattle.sfm_spec.specs.Families.{Meaning, AreBases}
use Rattle.sfm_squares.specs.Level.{IsLevel, IsSumOf, squares}
use Rattle.sfm_cert.specs.Answer.{row_lines, spaced, text_of}

-- the written text is that of a most level base of the sum, and of bases of the terms that add up to it: the sum of its squares, its
-- entries, and a line for each base, with its label, of lines with so many layers
pub record IsLevelText (lines : List ℕ) (terms : List Meaning) (n : ℕ) (written : List ℕ) : Type 0 where
  pub vector : List ℤ
  pub bases : List (List ℤ)
  pub are_bases : AreBases (pos 1) terms bases
  pub sum : IsSumOf terms n bases vector
  pub level : IsLevel terms n vector
  pub text : written ≡ text_of (codes "level 1" ∷ (codes "squares " ++ signed_decimal (squares vector))
      ∷ (codes "vector" ++ spaced signed_decimal vector) ∷ (row_lines (codes "base ") lines 1 bases ++ codes "end" ∷ []))
