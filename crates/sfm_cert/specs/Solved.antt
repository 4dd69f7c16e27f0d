-- What the program keeps of an answer, and the form that an instance asks for.
use Rattle.std.specs.Prelude.{ℕ, List, length, map, codes}
use Rattle.sfm_law.specs.declared.breaks.Break.{Break as Found}
use Rattle.sfm_extreme.specs.Blocks.{block_of}
use Rattle.sfm_kind.specs.Instance.{InstanceData}
use Rattle.sfm_kind.specs.Meanings.{kind_places}
use Rattle.sfm_cert.specs.declared.solved.Solved.{Solved}
use Rattle.sfm_cert.specs.declared.solved.AnswerEnd.{AnswerEnd}
use Rattle.sfm_cert.specs.declared.solved.AnswerEnd.TheVariants.{BadLine, Memory}
use Rattle.sfm_cert.specs.Answer.{Answer, Break, Form}
use Rattle.sfm_cert.specs.LineLists.{IsBadLine}

abbrev pub break_of : Found → Break
break_of b = record { num = b.slope.num; den = b.slope.den; members = b.set; bases = b.bases }

abbrev pub answer_of : Solved → Answer
answer_of s = record { value = s.value; least = s.least; greatest = s.greatest; blocks = map block_of s.blocks.items; bases = s.bases; breaks = map break_of s.breaks.items }

-- what an instance asks of an answer text with that first line: its names, the layers of its lines, and how many places each term
-- has
abbrev pub form_with : List ℕ → InstanceData → Form
form_with header instance = record { header = header; names = instance.names; lines = instance.lines; widths = map (λ term. length (kind_places term)) instance.terms }

-- the same where each element counts one
abbrev pub form_of : InstanceData → Form
form_of instance = form_with (codes "answer 1") instance

-- a bad line is the first one; want of memory says nothing
abbrev pub IsBadLineEnd : Form → List ℕ → AnswerEnd → Type 0
IsBadLineEnd form text (BadLine line) = IsBadLine form text line
IsBadLineEnd form text Memory = Unit {0}
