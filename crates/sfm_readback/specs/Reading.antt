-- How a text is read, line by line, and the rule of answer texts: what may stand next, and what is
-- due behind it.
use Rattle.std.specs.Prelude.{◌≡◌, ◌⊎◌, ℕ, ◌+◌, ◌<◌, ◌≤◌, Bool, List, [], ◌∷◌, ◌++◌, codes, drop, length, ℤ, pos}
use Rattle.std.specs.List.{All}
use Rattle.sfm_spec.specs.Blocks.{Block}
use Rattle.sfm_cert.specs.Answer.{Form, at_line, text_of}
use Rattle.sfm_cert.specs.Grammar.{IsLine}
use Rattle.sfm_cert.specs.Labels.{label_in}
use Rattle.sfm_cert.specs.declared.solved.AnswerEnd.{AnswerEnd}
use Rattle.sfm_cert.specs.declared.solved.AnswerEnd.TheVariants.{BadLine, Memory}
use Rattle.sfm_readback.specs.Lines.{IsMinimumLine, IsSetLine, IsBlockLine, Ratio, IsSlopeLine, IsBaseLine}
use Rattle.sfm_readback.specs.declared.cursor.Cursor.{Cursor}

-- ---- where the reading stands in the text

-- the text goes on from a place with a line and its line feed
pub record IsNextLine (text : List ℕ) (at : ℕ) (line : List ℕ) : Type 0 where
  pub is_line : IsLine line
  pub rest : List ℕ
  pub cut : drop at text ≡ line ++ (10 ∷ rest)

-- the line is read
pub record Takes (text : List ℕ) (from to : Cursor) (line : List ℕ) : Type 0 where
  pub next : IsNextLine text from.at line
  pub at : to.at ≡ from.at + length line + 1
  pub number : to.line ≡ from.line + 1

-- some line of a kind is read
pub record TakesSome (text : List ℕ) (from to : Cursor) (IsGood : List ℕ → Type 0) : Type 0 where
  pub line : List ℕ
  pub takes : Takes text from to line
  pub within : to.at ≤ length text
  pub good : IsGood line

-- the line that is next is none for which the fact holds, or there is none
pub record IsStuck (text : List ℕ) (from : Cursor) (IsGood : List ℕ → Type 0) (number : ℕ) : Type
    0 where
  pub number_is : number ≡ from.line
  pub none : (line : List ℕ) → IsNextLine text from.at line → IsGood line → ⊥

abbrev pub EndsStuck : List ℕ → Cursor → (List ℕ → Type 0) → AnswerEnd → Type 0
EndsStuck text from IsGood (BadLine number) = IsStuck text from IsGood number
EndsStuck text from IsGood Memory = Unit {0}

-- ---- texts that are read by a rule, which tells where a line leads from what is due before it

-- lines one behind another lead on
abbrev pub LeadsOnBy : {S : Type 0} → (S → List ℕ → S → Type 0) → S → List (List ℕ) → S → Type 0
LeadsOnBy {S} rule from [] to = from ≡ to
LeadsOnBy {S} rule from (line ∷ lines) to = (next : S) × rule from line next
    × LeadsOnBy rule next lines to

-- lines are read, and lead on
pub record ReadsBy {S : Type 0} (rule : S → List ℕ → S → Type 0) (text : List ℕ) (from to : Cursor)
    (due next : S) (lines : List (List ℕ)) : Type 0 where
  pub are_lines : All IsLine lines
  pub within : to.at ≤ length text
  pub cut : drop from.at text ≡ text_of lines ++ drop to.at text
  pub number : to.line ≡ from.line + length lines
  pub leads : LeadsOnBy rule due lines next

-- lines lead on to a line, of that number, that leads nowhere; or the text goes on behind its end
pub record StopsBy {S : Type 0} (rule : S → List ℕ → S → Type 0) (ended : S) (text : List ℕ)
    (from : Cursor) (due : S) (number : ℕ) : Type 0 where
  pub lines : List (List ℕ)
  pub to : Cursor
  pub next : S
  pub reads : ReadsBy rule text from to due next lines
  pub number_is : number ≡ to.line
  pub none : (line : List ℕ) (after : S) → IsNextLine text to.at line → rule next line after → ⊥
  pub left : next ≡ ended → to.at < length text

abbrev pub EndsAtBy : {S : Type 0} → (S → List ℕ → S → Type 0) → S → List ℕ → Cursor → S → AnswerEnd
    → Type 0
EndsAtBy {S} rule ended text from due (BadLine number) = StopsBy rule ended text from due number
EndsAtBy {S} rule ended text from due Memory = Unit {0}

-- ---- the rule of answers

-- what is due
pub data State : Type 0 where
  header : State
  minimum : State
  least : State
  greatest : State
  -- so many blocks were read, and these slopes
  listing : ℕ → List Ratio → State
  -- the number of the next base and the widths of those that are due, and the slopes whose bases
  -- are due behind them
  bases : ℕ → List ℕ → List Ratio → State
  ended : State

-- a line leads from what was due before it to what is due behind it
abbrev pub Leads : Form → State → List ℕ → State → Type 0
Leads form header line next = (line ≡ form.header) × (next ≡ minimum)
Leads form minimum line next = (v : ℤ) × IsMinimumLine line v × (next ≡ least)
Leads form least line next = (s : List Bool) × IsSetLine (codes "least") form.names line s
    × (next ≡ greatest)
Leads form greatest line next = (s : List Bool) × IsSetLine (codes "greatest") form.names line s
    × (next ≡ listing 0 [])
Leads form (listing k slopes) line next =
    ((block : Block) × IsBlockLine form.names k line block × (slopes ≡ [])
    × (next ≡ listing (k + 1) []))
    ⊎ ((r : Ratio) × (s : List Bool) × IsSlopeLine form.names line r s
    × (next ≡ listing k (slopes ++ r ∷ [])))
    ⊎ ((line ≡ at_line (pos 0) (pos 1)) × (next ≡ bases 1 form.widths slopes))
Leads form (bases i (width ∷ widths) due) line next = (x : List ℤ)
    × IsBaseLine (label_in form.lines i) width line x × (next ≡ bases (i + 1) widths due)
Leads form (bases i [] (r ∷ due)) line next = (line ≡ at_line r.num r.den)
    × (next ≡ bases 1 form.widths due)
Leads form (bases i [] []) line next = (line ≡ codes "end") × (next ≡ ended)
Leads form ended line next = ⊥

-- the same for lines one behind another
abbrev pub LeadsOn : Form → State → List (List ℕ) → State → Type 0
LeadsOn form from lines to = LeadsOnBy (Leads form) from lines to

-- lines are read, and lead on
abbrev pub Reads : Form → List ℕ → Cursor → Cursor → State → State → List (List ℕ) → Type 0
Reads form text from to due next lines = ReadsBy (Leads form) text from to due next lines

-- they stop
abbrev pub Stops : Form → List ℕ → Cursor → State → ℕ → Type 0
Stops form text from due number = StopsBy (Leads form) ended text from due number

abbrev pub EndsAt : Form → List ℕ → Cursor → State → AnswerEnd → Type 0
EndsAt form text from due end = EndsAtBy (Leads form) ended text from due end
