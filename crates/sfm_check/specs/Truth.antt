-- Which answers are true of a sum of terms, with bases that prove them; which texts are right.
use Rattle.std.specs.Prelude.{◌≡◌, ℕ, List, [], ◌∷◌, map, length, slice_index_or, ℤ, pos}
use Rattle.std.specs.List.{All}
use Rattle.sfm_spec.specs.Families.{Meaning, IsLeast, IsGreatest, AreBases, Prove, shifted_at, sized_shift}
use Rattle.sfm_spec.specs.Blocks.{AreBlocks}
use Rattle.sfm_spec.specs.Laws.{AreBreakpoints}
use Rattle.sfm_kind.specs.Instance.{InstanceData}
use Rattle.sfm_cert.specs.Answer.{Answer, Break, Form, answer_lines, mark_of}
use Rattle.sfm_cert.specs.Form.{IsFormed}
use Rattle.sfm_cert.specs.Grammar.{IsTextBy}

-- what is asked: an instance, and what its terms mean
pub record Question : Type 0 where
  pub instance : InstanceData
  pub meant : List Meaning

-- what the answer lines say is true: the least value, the extreme minimisers, the blocks that generate all minimisers, and
-- every slope with two or more minimisers, with the greatest, where each element has its size
pub record IsTrueHead (terms : List Meaning) (n : ℕ) (sizes : List ℤ) (a : Answer) : Type 0 where
  pub least : IsLeast terms n (pos 1) (sized_shift sizes (pos 0)) a.least
  pub greatest : IsGreatest terms n (pos 1) (sized_shift sizes (pos 0)) a.greatest
  pub value : a.value ≡ shifted_at terms (pos 1) (sized_shift sizes (pos 0)) a.least
  pub blocks : AreBlocks terms n (pos 1) (sized_shift sizes (pos 0)) a.blocks
  pub breaks : AreBreakpoints terms n sizes (map mark_of a.breaks)

-- a slope, and the bases that are to prove the minimum there
pub record Section : Type 0 where
  pub num : ℤ
  pub den : ℤ
  pub bases : List (List ℤ)

-- the section of a slope
abbrev pub section_of : Break → Section
section_of b = record { num = b.num; den = b.den; bases = b.bases }

-- 0/1, and then each slope
abbrev pub sections_of : Answer → List Section
sections_of a = record { num = pos 0; den = pos 1; bases = a.bases } ∷ map section_of a.breaks

-- the section number s, counted from 0; past the end stands one of no bases
abbrev pub section_at : Answer → ℕ → Section
section_at a s = slice_index_or (sections_of a) s (record { num = pos 0; den = pos 1; bases = [] })

-- bases of each term that prove the minimum at the slope
pub record IsProvedSection (terms : List Meaning) (n : ℕ) (sizes : List ℤ) (section : Section) : Type 0 where
  pub bases : AreBases section.den terms section.bases
  pub proves : Prove terms n section.den (sized_shift sizes section.num) section.bases

-- the text of an answer that is true, with bases that prove it
pub record IsRightFile (form : Form) (terms : List Meaning) (sizes : List ℤ) (text : List ℕ) : Type 0 where
  pub answer : Answer
  pub is_text : IsTextBy (IsFormed form) (answer_lines form) text answer
  pub head : IsTrueHead terms (length form.names) sizes answer
  pub sections : All (IsProvedSection terms (length form.names) sizes) (sections_of answer)
