-- What the program keeps of a good text of either side, and the verdict on a text that is offered
-- for both.
use Rattle.std.specs.Prelude.{ℕ, List}
use Rattle.sfm_text.specs.declared.reader.Numbered.{Numbered}
use Rattle.sfm_met.specs.MetVerdict.{IsMetVerdict}
use Rattle.sfm_due.specs.Due.{NamesVerdict, Question}
use Rattle.sfm_due.specs.Lined.{Lined}
use Rattle.sfm_due.specs.Meanings.{question_of}

-- what it asks, on which lines
abbrev pub lined_of : Numbered → Lined
lined_of side = record {
  asked = question_of side.instance;
  ground_line = side.ground_line;
  lines = side.term_lines.items;
}

-- the written text, with this code, is the verdict on the answer
abbrev pub IsMetJudged : Question → Question → List ℕ → List ℕ → ℕ → Type 0
IsMetJudged left right answer written code =
    NamesVerdict (IsMetVerdict left right answer) written code
