-- What a reader that takes a text in pieces stands for: the texts of which it has read what it
-- keeps.
use Rattle.std.specs.Prelude.{◌≡◌, ◌⊎◌, ℕ, ◌+◌, ◌≤◌, min, true, false, Bool, not, List, [], ◌∷◌, ◌++◌, length, filter, map, MatchOption}
use Rattle.std.specs.List.{FoldsTo, enumerate_from}
use Rattle.std.specs.Str.Lines.{strip_carriage_return}
use Rattle.sfm_text.specs.declared.end.Fault.{Fault}
use Rattle.sfm_text.specs.declared.reader.Numbered.{Numbered}
use Rattle.sfm_text.specs.declared.reader.Reader.{Reader}
use Rattle.sfm_lines.specs.Lines.{pieces_of, content_of, lines_of, tokens_of, are_skipped}
use Rattle.sfm_lines.specs.Reading.{State, start, Takes, FirstReason}
use Rattle.sfm_lines.specs.ReadParts.{state_at}
use Rattle.sfm_lines.specs.declared.stage.Stage.TheVariants.{Ended}
use Rattle.sfm_text.specs.GoodText.{text_limit, HasFaultyLine}
use Rattle.sfm_text.specs.Judging.{state_of}
use Rattle.sfm_text.specs.Numbered.{AreNumbersOf}

-- these pieces as lines, numbered on from that number
abbrev pub numbered : ℕ → List (List ℕ) → List (ℕ × List ℕ)
numbered number pieces = enumerate_from number (map strip_carriage_return pieces)

-- whether a line counts
abbrev pub is_content : ℕ × List ℕ → Bool
is_content line = not (are_skipped (tokens_of line.1))

-- the content lines among them
abbrev pub content_among : List (ℕ × List ℕ) → List (ℕ × List ℕ)
content_among lines = filter is_content lines

-- the bytes of each line
abbrev pub bytes_of : List (ℕ × List ℕ) → List (List ℕ)
bytes_of lines = map (λ line. line.1) lines

-- what lines lead to: their count, the numbers of the content lines among them, and the state
pub record Progress : Type 0 where
  pub lines : ℕ
  pub numbers : List ℕ
  pub state : State

abbrev pub progress_of : Reader → Progress
progress_of reader = record {
  lines = reader.lines;
  numbers = reader.numbers.items;
  state = state_of reader.reading;
}

-- the lines of these pieces are good one after another, and lead there
pub record LeadTo (pieces : List (List ℕ)) (p : Progress) : Type 0 where
  pub count : p.lines ≡ length pieces
  pub numbers : p.numbers ≡ map (λ line. line.0) (content_among (numbered 1 pieces))
  pub good : FoldsTo Takes start (bytes_of (content_among (numbered 1 pieces))) p.state

-- the lines of the text that have ended lead there, and `rest` stands behind them
pub record IsOpen (p : Progress) (rest text : List ℕ) : Type 0 where
  pub ended : List (List ℕ)
  pub cut : pieces_of 10 text ≡ ended ++ rest ∷ []
  pub lead : LeadTo ended p

-- the first line of the text with a reason has ended, and has that one: whatever comes behind it
abbrev pub IsFaulty : Fault → List ℕ → Type 0
IsFaulty fault text = (more : List ℕ) → HasFaultyLine (text ++ more) fault.line fault.reason

-- what a reader of a text that is not too long has kept of it
abbrev pub HasRead : Reader → List ℕ → Type 0
HasRead reader text = MatchOption reader.fault (IsOpen (progress_of reader) reader.rest.items text)
    (λ fault. IsFaulty fault text)

-- the reader has read the text: it has counted the bytes, up to one more than a text may have, and
-- where there are no more than that, it has kept what they lead to
pub record Stands (reader : Reader) (text : List ℕ) : Type 0 where
  pub counted : reader.count ≡ min (length text) (text_limit + 1)
  pub read : length text ≤ text_limit → HasRead reader text

-- one more line, which counts or not
pub record PassesLine (p : Progress) (line : List ℕ) (q : Progress) : Type 0 where
  pub lines : q.lines ≡ p.lines + 1
  pub kept : ((are_skipped (tokens_of line) ≡ false) × (q.numbers ≡ p.numbers ++ (p.lines + 1) ∷ [])
      × Takes p.state line q.state)
      ⊎ ((are_skipped (tokens_of line) ≡ true) × (q.numbers ≡ p.numbers) × (q.state ≡ p.state))

-- one more line, which counts and has this fault
pub record FailsLine (p : Progress) (line : List ℕ) (fault : Fault) : Type 0 where
  pub line_is : fault.line ≡ p.lines + 1
  pub counts : are_skipped (tokens_of line) ≡ false
  pub reason : FirstReason p.state line fault.reason

-- the piece has been judged as a line
abbrev pub JudgesLine : Reader → List ℕ → Reader → Type 0
JudgesLine old piece new = MatchOption new.fault
    (PassesLine (progress_of old) (strip_carriage_return piece) (progress_of new))
    (FailsLine (progress_of old) (strip_carriage_return piece))

-- all lines of the text are good, and lead there
pub record LeadsTo (text : List ℕ) (p : Progress) : Type 0 where
  pub count : p.lines ≡ length (lines_of text)
  pub numbers : p.numbers ≡ map (λ line. line.0) (content_of text)
  pub good : FoldsTo Takes start (bytes_of (content_of text)) p.state

-- all that can be read of the text has been
abbrev pub HasReadAll : Reader → List ℕ → Type 0
HasReadAll reader text = MatchOption reader.fault (LeadsTo text (progress_of reader))
    (λ fault. HasFaultyLine text fault.line fault.reason)

-- the text comes to its end, and stands for the instance, with these numbers of its lines
pub record IsToldBy (text : List ℕ) (r : Numbered) : Type 0 where
  pub lines : FoldsTo Takes start (bytes_of (content_of text)) (state_at Ended r.instance)
  pub numbers : AreNumbersOf text r.ground_line r.instance.lines r.term_lines.items
  pub counted : length r.term_lines.items ≡ length r.instance.terms
