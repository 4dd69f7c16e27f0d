-- What is said of a text that is offered as the answer of an instance: that it is right, or its first fault.
-- The reasons stand in an order: each speaks of texts that none of the ones before applies to. Of every kind of text the first two
-- speak alike, and the others of what it says.
use Rattle.std.specs.Prelude.{◌≡◌, ◌≢◌, ◌⊎◌, ℕ, ◌+◌, ◌<◌, ◌≤◌, List, [], ◌∷◌, ◌++◌, length, slice_index_or, ℤ, pos}
use Rattle.std.specs.List.{All}
use Rattle.sfm_spec.specs.Terms.{times, IsBase}
use Rattle.sfm_spec.specs.Families.{Meaning, AreBases}
use Rattle.sfm_spec.specs.Walks.{term_at, base_at}
use Rattle.sfm_cert.specs.Answer.{Answer, Form, head_lines, answer_lines, at_line, line_at}
use Rattle.sfm_cert.specs.Form.{IsFormed}
use Rattle.sfm_cert.specs.Grammar.{answer_limit, IsBadLineOf, IsTextBy}
use Rattle.sfm_check.specs.Truth.{Section, sections_of, section_at, IsProvedSection, IsRightFile, IsTrueHead}
use Rattle.sfm_check.specs.declared.verdicts.Wrong.{Wrong}
use Rattle.sfm_check.specs.declared.verdicts.Wrong.TheVariants.{Long, Grammar, Base, Unproved, Answer as AnswerLine}
use Rattle.sfm_check.specs.declared.verdicts.Verdict.{Verdict}
use Rattle.sfm_check.specs.declared.verdicts.Verdict.TheVariants.{Valid, Invalid}

-- the reason stands against a text that is to be the lines of something of a form, at that line, and none of the reasons before it: it
-- is too long; the line is none of the grammar at its place; or the reason stands against what the text says
abbrev pub IsFaultBy : {A : Type 0} → (A → Type 0) → (A → List (List ℕ)) → (A → ℕ → Wrong → Type 0) → List ℕ → ℕ → Wrong → Type 0
IsFaultBy Formed lines_by IsAgainst text line Long = (line ≡ 0) × (answer_limit < length text)
IsFaultBy Formed lines_by IsAgainst text line Grammar = (length text ≤ answer_limit) × IsBadLineOf Formed lines_by text line
IsFaultBy {A} Formed lines_by IsAgainst text line reason = (length text ≤ answer_limit) × ((a : A) × IsTextBy Formed lines_by text a × IsAgainst a line reason)

-- row i of section s is a base of its term, times the denominator of the section
abbrev pub IsBaseAt : List Meaning → Answer → ℕ → ℕ → Type 0
IsBaseAt terms a s i = IsBase (times (section_at a s).den (term_at terms i).value) (base_at (section_at a s).bases i)

-- the line of the first row, section by section and term by term, that is no base of its term
pub record IsFirstNoBase (terms : List Meaning) (a : Answer) (line : ℕ) : Type 0 where
  pub section : ℕ
  pub term : ℕ
  pub is_section : section < length (sections_of a)
  pub is_term : term < length terms
  pub line_is : line ≡ line_at (length a.blocks) (length a.breaks) (length terms) section + (term + 1)
  pub no_base : IsBaseAt terms a section term → ⊥
  pub before : (s i : ℕ) → s < length (sections_of a) → i < length terms → (s < section) ⊎ ((s ≡ section) × (i < term)) → IsBaseAt terms a s i

-- the line of the first section whose bases do not prove
pub record IsFirstUnproved (terms : List Meaning) (n : ℕ) (sizes : List ℤ) (a : Answer) (line : ℕ) : Type 0 where
  pub section : ℕ
  pub is_section : section < length (sections_of a)
  pub line_is : line ≡ line_at (length a.blocks) (length a.breaks) (length terms) section
  pub unproved : IsProvedSection terms n sizes (section_at a section) → ⊥
  pub before : (s : ℕ) → s < section → IsProvedSection terms n sizes (section_at a s)

-- the lines that are due: what is true, and the line of the first section
abbrev pub due_lines : Form → Answer → List (List ℕ)
due_lines form truth = head_lines form truth ++ at_line (pos 0) (pos 1) ∷ []

-- the first line that is not the due one
pub record IsFirstWrong (form : Form) (terms : List Meaning) (sizes : List ℤ) (a : Answer) (line : ℕ) : Type 0 where
  pub truth : Answer
  pub at : ℕ
  pub is_true : IsTrueHead terms (length form.names) sizes truth
  pub is_due : at < length (due_lines form truth)
  pub line_is : line ≡ at + 1
  pub wrong : slice_index_or (answer_lines form a) at [] ≢ slice_index_or (due_lines form truth) at []
  pub before : (i : ℕ) → i < at → slice_index_or (answer_lines form a) i [] ≡ slice_index_or (due_lines form truth) i []

-- the reason stands against what an answer says, at that line, and none of those before it
abbrev pub IsAgainst : Form → List Meaning → List ℤ → Answer → ℕ → Wrong → Type 0
IsAgainst form terms sizes a line Base = IsFirstNoBase terms a line
IsAgainst form terms sizes a line Unproved = All (λ (section : Section). AreBases section.den terms section.bases) (sections_of a) × IsFirstUnproved terms (length form.names) sizes a line
IsAgainst form terms sizes a line AnswerLine = All (IsProvedSection terms (length form.names) sizes) (sections_of a) × IsFirstWrong form terms sizes a line
IsAgainst form terms sizes a line _ = ⊥

-- the verdict on a text: `valid` exactly where it is a right file, and else its first fault
abbrev pub IsVerdict : Form → List Meaning → List ℤ → List ℕ → Verdict → Type 0
IsVerdict form terms sizes text Valid = IsRightFile form terms sizes text
IsVerdict form terms sizes text (Invalid line reason) = (IsRightFile form terms sizes text → ⊥)
    × IsFaultBy (IsFormed form) (answer_lines form) (IsAgainst form terms sizes) text line reason
