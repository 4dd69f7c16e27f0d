-- What a frame tells of the lines of a side text: which line opens it, which line of the form comes
-- next, where it ends, and the faults that every form has in common.
use Rattle.std.specs.Prelude.{◌≡◌, ◌≢◌, ℕ, ◌+◌, ◌<◌, ◌≤◌, List, [], ◌∷◌, ◌++◌, length, map, Any, codes, Option, MatchOption}
use Rattle.std.specs.List.{FoldsTo}
use Rattle.sfm_lines.specs.declared.reason.Reason.{Reason}
use Rattle.sfm_lines.specs.declared.reason.Reason.TheVariants.{Long, Bytes, Word, Shape, Short}
use Rattle.sfm_lines.specs.Lines.{lines_of, content_of, tokens_of}
use Rattle.sfm_lines.specs.Reading.{IsBadByte, reason_order}
use Rattle.sfm_text.specs.declared.end.TextEnd.{TextEnd}
use Rattle.sfm_text.specs.declared.end.TextEnd.TheVariants.{Refused, Memory}
use Rattle.sfm_text.specs.Cursor.{content_left, text_of}
use Rattle.sfm_text.specs.Language.{text_limit, IsFirstOf}
use Rattle.sfm_side.specs.declared.frame.Frame.{Frame}
use Rattle.sfm_side.specs.declared.frame.Due.{Due}
use Rattle.sfm_side.specs.declared.frame.Due.TheVariants.{Inner, End, Faulty}
use Rattle.sfm_side.specs.Side.{SideForm, header, lines, side_language}

-- the content lines that are still to come
abbrev pub left_of : Frame → List (ℕ × List ℕ)
left_of frame = content_left frame.lines

-- the whole text
abbrev pub text_in : Frame → List ℕ
text_in frame = text_of frame.lines

-- no byte of the line is bad, and its tokens are these
pub record IsLineWith (line : List ℕ) (tokens : List (List ℕ)) : Type 0 where
  pub good : Any IsBadByte line → ⊥
  pub tokens_are : tokens_of line ≡ tokens

-- a line that is for the form to judge: no bad byte, and `end` is not its first token
pub record IsInner (line : List ℕ) : Type 0 where
  pub good : Any IsBadByte line → ⊥
  pub word : (rest : List (List ℕ)) → tokens_of line ≢ codes "end" ∷ rest

-- the first reason of a line where the header with that word is due
abbrev pub IsHeaderReason : List ℕ → List ℕ → Reason → Type 0
IsHeaderReason word line Bytes = Any IsBadByte line
IsHeaderReason word line Word =
    (Any IsBadByte line → ⊥) × ((rest : List (List ℕ)) → tokens_of line ≢ word ∷ rest)
IsHeaderReason word line Shape = (rest : List (List ℕ)) × IsLineWith line (word ∷ rest)
    × (rest ≢ codes "1" ∷ [])
IsHeaderReason word line reason = ⊥

-- the first reason that every form finds in a line where one of its lines or the end is due
abbrev pub IsLaterReason : List ℕ → Reason → Type 0
IsLaterReason line Bytes = Any IsBadByte line
IsLaterReason line Shape =
    (rest : List (List ℕ)) × IsLineWith line (codes "end" ∷ rest) × (rest ≢ [])
IsLaterReason line reason = ⊥

-- the first reason of a line behind the end
abbrev pub IsPastReason : List ℕ → Reason → Type 0
IsPastReason line Bytes = Any IsBadByte line
IsPastReason line Word = Any IsBadByte line → ⊥
IsPastReason line reason = ⊥

-- what a line is where a line of a form or the end is due
abbrev pub IsDueLine : List ℕ → Due → Type 0
IsDueLine line Inner = IsInner line
IsDueLine line End = IsLineWith line (codes "end" ∷ [])
IsDueLine line (Faulty reason) = IsLaterReason line reason

-- why what is left behind the end is refused: its first line has a reason
abbrev pub IsPastRefusal : List (ℕ × List ℕ) → TextEnd → Type 0
IsPastRefusal left (Refused number reason) = (line : List ℕ) × (after : List (ℕ × List ℕ))
    × (left ≡ (number, line) ∷ after) × IsPastReason line reason
IsPastRefusal left Memory = ⊥

-- the frame of a text whose header has that word stands behind the header
pub record IsOpened (word text : List ℕ) (frame : Frame) : Type 0 where
  pub short : length text ≤ text_limit
  pub first : ℕ × List ℕ
  pub content : content_of text ≡ first ∷ left_of frame
  pub head : IsLineWith first.1 (word ∷ codes "1" ∷ [])
  pub whole : text_in frame ≡ text

-- why a text has no such header: it is too long, or has no content line, or the first has a reason
pub data IsOpenFault (word text : List ℕ) (number : ℕ) (reason : Reason) : Type 0 where
  is_too_long : number ≡ 0 → reason ≡ Long → text_limit < length text
      → IsOpenFault word text number reason
  is_empty : length text ≤ text_limit → content_of text ≡ [] → number ≡ length (lines_of text) + 1
      → reason ≡ Short → IsOpenFault word text number reason
  is_header : length text ≤ text_limit → (line : List ℕ) (after : List (ℕ × List ℕ))
      → content_of text ≡ (number, line) ∷ after → IsHeaderReason word line reason
      → IsOpenFault word text number reason

abbrev pub IsOpenRefusal : List ℕ → List ℕ → TextEnd → Type 0
IsOpenRefusal word text (Refused number reason) = IsOpenFault word text number reason
IsOpenRefusal word text Memory = ⊥

-- why every form refuses what is left of a text where one of its lines or the end is due: there is
-- no line, or the next one has a reason, or it is the end and a line stands behind it
pub data IsLeftFault (text : List ℕ) (left : List (ℕ × List ℕ)) (number : ℕ) (reason : Reason)
    : Type 0 where
  is_none : left ≡ [] → number ≡ length (lines_of text) + 1 → reason ≡ Short
      → IsLeftFault text left number reason
  is_next : (line : List ℕ) (after : List (ℕ × List ℕ)) → left ≡ (number, line) ∷ after
      → IsLaterReason line reason → IsLeftFault text left number reason
  is_past : (last : ℕ × List ℕ) (line : List ℕ) (after : List (ℕ × List ℕ))
      → left ≡ last ∷ (number, line) ∷ after → IsLineWith last.1 (codes "end" ∷ [])
      → IsPastReason line reason → IsLeftFault text left number reason

abbrev pub IsLeftRefusal : List ℕ → List (ℕ × List ℕ) → TextEnd → Type 0
IsLeftRefusal text left (Refused number reason) = IsLeftFault text left number reason
IsLeftRefusal text left Memory = ⊥

-- the end alone is left
abbrev pub IsAtEnd : List (ℕ × List ℕ) → Type 0
IsAtEnd left = (last : ℕ × List ℕ) × (left ≡ last ∷ []) × IsLineWith last.1 (codes "end" ∷ [])

-- ---- what a loop over the lines of a form knows

-- what the frame asks of a form: it does not tell what the frame tells, and the end has no reason
-- behind its shape
pub record IsFramed {D : Type 0} (form : SideForm D) : Type 0 where
  pub plain : (d : D) (tokens : List (List ℕ)) (reason : Reason) → form.HasIn d tokens reason
      → (reason ≢ Long) × (reason ≢ Bytes) × (reason ≢ Short)
  pub ends : (d : D) (reason : Reason) → form.HasIn d (codes "end" ∷ []) reason
      → reason_order reason ≤ 3

-- the lines of a text before those that are left are good, and say d
pub record IsReadTo {D : Type 0} (form : SideForm D) (text : List ℕ) (left : List (ℕ × List ℕ))
    (d : D) : Type 0 where
  pub short : length text ≤ text_limit
  pub done : List (ℕ × List ℕ)
  pub content : content_of text ≡ done ++ left
  pub good : FoldsTo (side_language form).Takes header (map (λ line. line.1) done) (lines d)

-- the line with these tokens has no reason, and is said by a form to lead from d to said
pub record IsSaid {D : Type 0} (form : SideForm D) (d : D) (tokens : List (List ℕ)) (said : D)
    : Type 0 where
  pub good : (reason : Reason) → form.HasIn d tokens reason → ⊥
  pub says : form.Says d tokens said

-- a line with these tokens is taken, or has that reason first
abbrev pub IsTold : {D : Type 0} → SideForm D → D → List (List ℕ) → Option Reason → D → Type 0
IsTold form d tokens result said =
    MatchOption result (IsSaid form d tokens said) (IsFirstOf (form.HasIn d tokens))
