-- What the steps of a judgement find of an answer: of its rows, of its sections, and of what it
-- says.
use Rattle.std.specs.Prelude.{◌≡◌, ◌≢◌, ◌⊎◌, ℕ, zero, suc, ◌+◌, ◌<◌, ◌≤◌, Bool, List, [], length, slice_index_or, ℤ, pos, ◌*ℤ◌}
use Rattle.std.specs.List.{All}
use Rattle.sfm_spec.specs.Sets.{empty_set, size, whole_set}
use Rattle.sfm_spec.specs.Laws.{Mark}
use Rattle.sfm_spec.specs.Search.{mark_at}
use Rattle.sfm_spec.specs.Terms.{times, IsBase}
use Rattle.sfm_spec.specs.Families.{Meaning, AreBases, IsLeast, IsGreatest, shifted_at, sized_shift}
use Rattle.sfm_spec.specs.Blocks.{AreBlocks, Block, block_at}
use Rattle.sfm_spec.specs.Walks.{term_at, base_at}
use Rattle.sfm_extreme.specs.declared.extremes.Proved.{Proved}
use Rattle.sfm_cert.specs.Answer.{Answer, Form, answer_lines}
use Rattle.sfm_check.specs.Truth.{Section, section_at, sections_of, IsProvedSection, IsTrueHead}
use Rattle.sfm_check.specs.declared.sections.Sections.{Sections}
use Rattle.sfm_check.specs.declared.sections.Sections.TheVariants.{Proved as AllProved, Unproved as OneUnproved}
use Rattle.sfm_check.specs.declared.verdicts.Wrong.TheVariants.{Long, Grammar, Base, Unproved, Answer as AnswerLine}
use Rattle.sfm_check.specs.declared.verdicts.Verdict.{Verdict}
use Rattle.sfm_check.specs.declared.verdicts.Verdict.TheVariants.{Valid, Invalid}
use Rattle.sfm_check.specs.Verdict.{IsBaseAt, IsFirstNoBase, IsFirstUnproved, IsFirstWrong, due_lines}

-- the first k entries of x are to q as those of y are to p
abbrev pub AreInRatio : ℕ → ℤ → List ℤ → ℤ → List ℤ → Type 0
AreInRatio k q x p y = (i : ℕ) → i < k
    → (p *ℤ slice_index_or x i (pos 0)) ≡ (q *ℤ slice_index_or y i (pos 0))

-- each row is a base of its term, times q
abbrev pub AreBasesIn : List Meaning → ℤ → List (List ℤ) → Type 0
AreBasesIn terms q rows = (i : ℕ) → i < length terms
    → IsBase (times q (term_at terms i).value) (base_at rows i)

-- the first row that is none
pub record IsFirstNoBaseIn (terms : List Meaning) (q : ℤ) (rows : List (List ℤ)) (i : ℕ) : Type
    0 where
  pub is_term : i < length terms
  pub no_base : IsBase (times q (term_at terms i).value) (base_at rows i) → ⊥
  pub before : (j : ℕ) → j < i → IsBase (times q (term_at terms j).value) (base_at rows j)

-- what stands past the end of a list of sections
abbrev pub no_section : Section
no_section = record { num = pos 0; den = pos 1; bases = [] }

-- the bases of each section are bases of the terms
abbrev pub AllAreBases : List Meaning → Answer → Type 0
AllAreBases terms a = All (λ (section : Section). AreBases section.den terms section.bases)
    (sections_of a)

-- each row of each section is a base
abbrev pub AllRowsAreBases : List Meaning → Answer → Type 0
AllRowsAreBases terms a = (s i : ℕ) → s < length (sections_of a) → i < length terms
    → IsBaseAt terms a s i

-- the section has this slope and these rows
pub record IsSection (section : Section) (num den : ℤ) (rows : List (List ℤ)) : Type 0 where
  pub num_is : section.num ≡ num
  pub den_is : section.den ≡ den
  pub rows_are : section.bases ≡ rows

-- the bases of a section prove the minimum, which is as told
pub record IsToldOf (terms : List Meaning) (n : ℕ) (sizes : List ℤ) (section : Section)
    (p : Proved) : Type 0 where
  pub proved : IsProvedSection terms n sizes section
  pub least : IsLeast terms n section.den (sized_shift sizes section.num) p.least
  pub greatest : IsGreatest terms n section.den (sized_shift sizes section.num) p.greatest
  pub value : p.value ≡ shifted_at terms section.den (sized_shift sizes section.num) p.least

-- what the bases of all sections tell, one after the other
pub record AreTold (terms : List Meaning) (n : ℕ) (sizes : List ℤ) (a : Answer)
    (found : List Proved) : Type 0 where
  pub count : length found ≡ length (sections_of a)
  pub each : (s : ℕ) (d : Proved) → s < length (sections_of a)
      → IsToldOf terms n sizes (section_at a s) (slice_index_or found s d)

-- what all sections tell, or the line of the first that does not prove
abbrev pub AreSections : List Meaning → ℕ → List ℤ → Answer → Sections → Type 0
AreSections terms n sizes a (AllProved found) = AreTold terms n sizes a found.items
AreSections terms n sizes a (OneUnproved line) = IsFirstUnproved terms n sizes a line

-- where two lists of blocks first differ, or one of them ends
pub record IsFirstUnlike (given due : List Block) (i : ℕ) : Type 0 where
  pub before : (j : ℕ) → j < i → block_at given j ≡ block_at due j
  pub in_given : i ≤ length given
  pub in_due : i ≤ length due
  pub unlike : ((i < length given) × (i < length due) × (block_at given i ≢ block_at due i))
      ⊎ ((i ≡ length given) × (i < length due)) ⊎ ((i < length given) × (i ≡ length due))

-- the answer says the same but for the slopes
pub record SaysTheSame (a truth : Answer) : Type 0 where
  pub value : a.value ≡ truth.value
  pub least : a.least ≡ truth.least
  pub greatest : a.greatest ≡ truth.greatest
  pub blocks : a.blocks ≡ truth.blocks

-- what the answer says is true, but for the slopes
pub record IsTrueMinimum (terms : List Meaning) (n : ℕ) (sizes : List ℤ) (a : Answer) : Type 0 where
  pub least : IsLeast terms n (pos 1) (sized_shift sizes (pos 0)) a.least
  pub greatest : IsGreatest terms n (pos 1) (sized_shift sizes (pos 0)) a.greatest
  pub value : a.value ≡ shifted_at terms (pos 1) (sized_shift sizes (pos 0)) a.least
  pub blocks : AreBlocks terms n (pos 1) (sized_shift sizes (pos 0)) a.blocks

-- the set before slope k: that of the slope before, or the first set
abbrev pub set_before : List Bool → List Mark → ℕ → List Bool
set_before first marks zero = first
set_before first marks (suc k) = (mark_at marks k).members

-- the slope has the set before as its least minimiser, and a larger one as its greatest
pub record IsNextSlope (terms : List Meaning) (n : ℕ) (sizes : List ℤ) (before : List Bool)
    (mark : Mark) : Type 0 where
  pub least : IsLeast terms n mark.den (sized_shift sizes mark.num) before
  pub greatest : IsGreatest terms n mark.den (sized_shift sizes mark.num) mark.members
  pub larger : size before < size mark.members

-- the extreme sets that a section tells, the set before a slope and that of the slope are of one
-- ground
pub record AreOfOneGround (found : Proved) (before set : List Bool) : Type 0 where
  pub least : length found.least ≡ length before
  pub greatest : length found.greatest ≡ length set
  pub both : length set ≡ length before

-- each slope is the next one, and the last set is the whole
pub record IsFullChain (terms : List Meaning) (n : ℕ) (sizes : List ℤ) (marks : List Mark) : Type
    0 where
  pub each : (k : ℕ) → k < length marks
      → IsNextSlope terms n sizes (set_before (empty_set n) marks k) (mark_at marks k)
  pub ends : set_before (empty_set n) marks (length marks) ≡ whole_set n

-- the first slope that is not the next one, or the number of them where one is missing
pub record IsFirstWrongSlope (terms : List Meaning) (n : ℕ) (sizes : List ℤ) (marks : List Mark)
    (k : ℕ) : Type 0 where
  pub before : (j : ℕ) → j < k → IsNextSlope terms n sizes (set_before (empty_set n) marks j)
      (mark_at marks j)
  pub wrong : ((k < length marks)
      × (IsNextSlope terms n sizes (set_before (empty_set n) marks k) (mark_at marks k) → ⊥))
      ⊎ ((k ≡ length marks) × (set_before (empty_set n) marks k ≢ whole_set n))

-- the first line of an answer that is not the due one
pub record IsWrongLine (form : Form) (a truth : Answer) (line : ℕ) : Type 0 where
  pub at : ℕ
  pub is_due : at < length (due_lines form truth)
  pub line_is : line ≡ at + 1
  pub wrong : slice_index_or (answer_lines form a) at [] ≢ slice_index_or (due_lines form truth) at
      []
  pub before : (i : ℕ) → i < at → slice_index_or (answer_lines form a) i [] ≡ slice_index_or
      (due_lines form truth) i []

-- the bases of each section prove the minimum there
abbrev pub AllAreProved : List Meaning → ℕ → List ℤ → Answer → Type 0
AllAreProved terms n sizes a = (s : ℕ) → s < length (sections_of a)
    → IsProvedSection terms n sizes (section_at a s)

-- what is found of an answer, in the order of the reasons
abbrev pub IsFound : Form → List Meaning → List ℤ → Answer → Verdict → Type 0
IsFound form terms sizes a Valid = IsTrueHead terms (length form.names) sizes a
    × AllAreProved terms (length form.names) sizes a
IsFound form terms sizes a (Invalid line Long) = ⊥
IsFound form terms sizes a (Invalid line Grammar) = ⊥
IsFound form terms sizes a (Invalid line Base) = IsFirstNoBase terms a line
IsFound form terms sizes a (Invalid line Unproved) = AllAreBases terms a
    × IsFirstUnproved terms (length form.names) sizes a line
IsFound form terms sizes a (Invalid line AnswerLine) =
    AllAreProved terms (length form.names) sizes a × IsFirstWrong form terms sizes a line
