-- What is due for the texts that a command names: the text that is to be written, and the code that goes with it.
use Rattle.std.specs.Prelude.{◌≡◌, ℕ, ◌≤◌, List, ◌++◌, length, codes, decimal, ℤ}
use Rattle.std.specs.List.{All, AllZip, FoldsTo, zip}
use Rattle.sfm_spec.specs.Families.{Meaning, sized_shift}
use Rattle.sfm_spec.specs.Laws.{ones}
use Rattle.sfm_spec.specs.Walks.{few_walks}
use Rattle.sfm_kind.specs.declared.kind.Kind.{Kind}
use Rattle.sfm_kind.specs.Meanings.{IsMeaningOf, IsStartOf}
use Rattle.sfm_lines.specs.declared.reason.Reason.{Reason}
use Rattle.sfm_lines.specs.Reasons.{reason_word}
use Rattle.sfm_lines.specs.declared.stage.Stage.TheVariants.{Ended}
use Rattle.sfm_lines.specs.ReadParts.{state_at}
use Rattle.sfm_text.specs.Language.{IsReadAs}
use Rattle.sfm_text.specs.GoodText.{instance_language}
use Rattle.sfm_cert.specs.Solved.{form_with}
pub use Rattle.sfm_check.specs.Truth.{Question}
use Rattle.sfm_check.specs.Truth.{IsRightFile, Section, sections_of}
use Rattle.sfm_check.specs.declared.verdicts.Verdict.{Verdict}
use Rattle.sfm_check.specs.declared.verdicts.Verdict.TheVariants.{Valid, Invalid}
use Rattle.sfm_check.specs.declared.verdicts.Wrong.{Wrong}
use Rattle.sfm_check.specs.declared.verdicts.Wrong.TheVariants.{Long, Grammar, Base, Unproved, Answer}
use Rattle.sfm_check.specs.Verdict.{IsVerdict}
use Rattle.sfm_due.specs.Moves.{Moves}

-- the word of a reason
abbrev pub wrong_word : Wrong → List ℕ
wrong_word Long = codes "long"
wrong_word Grammar = codes "grammar"
wrong_word Base = codes "base"
wrong_word Unproved = codes "unproved"
wrong_word Answer = codes "answer"

-- the line that names a fault of a text: a word, the number of a line, and the word of the reason against it
abbrev pub fault_line : List ℕ → ℕ → List ℕ → List ℕ
fault_line word line reason = word ++ codes " " ++ decimal line ++ codes " " ++ reason ++ codes "\n"

-- the written text is the line of the verdict, and the code goes with it
abbrev pub SaysVerdict : Verdict → List ℕ → ℕ → Type 0
SaysVerdict Valid written code = (written ≡ codes "valid\n") × (code ≡ 0)
SaysVerdict (Invalid line reason) written code = (written ≡ fault_line (codes "invalid") line (wrong_word reason)) × (code ≡ 1)

-- the text has no fault, and asks this: it stands for this instance, whose terms mean so
pub record IsAsked (text : List ℕ) (asked : Question) : Type 0 where
  pub good : IsReadAs instance_language text (state_at Ended asked.instance)
  pub means : AllZip IsMeaningOf asked.instance.terms asked.meant

-- at most n + n(n+1)(nm+1) moves along shortest walks, one after the other, of n elements and m terms, lead to the bases of a section
-- at its slope from the first bases of the terms, where each element has its size
pub record IsReached (terms : List Kind) (meant : List Meaning) (n : ℕ) (sizes : List ℤ) (section : Section) : Type 0 where
  pub firsts : List (List ℤ)
  pub amounts : List ℤ
  pub starts : AllZip (λ (kind, term) first. IsStartOf kind term.value section.den first) (zip terms meant) firsts
  pub few : length amounts ≤ few_walks n (length meant)
  pub moved : FoldsTo (Moves meant section.den (sized_shift sizes section.num)) firsts amounts section.bases

-- the file, with that first line, is a right one for what is asked, where each element has its size; and few walks lead to the bases
-- of each section
pub record IsSolvedBy (header : List ℕ) (sizes : List ℤ) (asked : Question) (file : List ℕ) : Type 0 where
  pub right : IsRightFile (form_with header asked.instance) asked.meant sizes file
  pub reached : All (IsReached asked.instance.terms asked.meant (length asked.instance.names) sizes) (sections_of right.answer)

-- the file is a right one, reached by few walks, where each element counts one
abbrev pub IsSolved : Question → List ℕ → Type 0
IsSolved asked file = IsSolvedBy (codes "answer 1") (ones (length asked.instance.names)) asked file

-- the written text refuses another at a line and for a reason that are its first fault, behind a word for which text it is, or `refused`
pub record NamesFault (word : List ℕ) (IsFault : ℕ → Reason → Type 0) (written : List ℕ) : Type 0 where
  pub line : ℕ
  pub reason : Reason
  pub fault : IsFault line reason
  pub named : written ≡ fault_line word line (reason_word reason)

-- the written text, with this code, says a verdict that is the right one
pub record NamesVerdict (IsDue : Verdict → Type 0) (written : List ℕ) (code : ℕ) : Type 0 where
  pub verdict : Verdict
  pub judged : IsDue verdict
  pub said : SaysVerdict verdict written code

-- the written text, with this code, is the verdict on the answer, which is to have that first line, to what is asked, where each
-- element has its size
abbrev pub IsJudgedBy : List ℕ → List ℤ → Question → List ℕ → List ℕ → ℕ → Type 0
IsJudgedBy header sizes asked answer written code = NamesVerdict (IsVerdict (form_with header asked.instance) asked.meant sizes answer) written code

-- the written text, with this code, is the verdict on the answer where each element counts one
abbrev pub IsJudged : Question → List ℕ → List ℕ → ℕ → Type 0
IsJudged asked answer written code = IsJudgedBy (codes "answer 1") (ones (length asked.instance.names)) asked answer written code
