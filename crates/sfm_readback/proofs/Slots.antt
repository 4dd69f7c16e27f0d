-- Texts of slots: each line is judged by itself, so the first line that does not fill its slot is
-- the first bad one.
use Rattle.std.proofs.Common.{◌≡◌, ℕ, ◌+◌, Bool, false, List, [], ◌∷◌, ◌++◌, length, map, replicate, ℤ, pos, refl, sym, ap, subst, ◌∙◌, arith}
use Rattle.std.specs.List.{All}
use Rattle.std.specs.Fmt.{signed_decimal}
use Rattle.std.proofs.lemmas.List.{length-replicate}
use Rattle.std.proofs.lemmas.List.Elements.{All-nil, All-cons, All-head, All-tail, All-replicate}
use Rattle.sfm_spec.specs.Bounds.{IsEntry}
use Rattle.sfm_spec.specs.Names.{IsName}
use Rattle.sfm_cert.specs.Answer.{listed, row_lines}
use Rattle.sfm_cert.specs.LineLists.{row_line}
use Rattle.sfm_cert.specs.Form.{AreFormedRows}
use Rattle.sfm_cert.specs.Grammar.{IsLine}
use Rattle.sfm_cert.specs.Labels.{label_in}
use Rattle.sfm_cert.specs.declared.solved.AnswerEnd.{AnswerEnd}
use Rattle.sfm_readback.specs.Reading.{LeadsOnBy, ReadsBy, EndsAtBy, EndsStuck, TakesSome}
use Rattle.sfm_readback.specs.Slots.{Slot, exact, value, set, row, Fills, FillsNext, IsCleanSlot, row_slots}
use Rattle.sfm_readback.specs.declared.cursor.Cursor.{Cursor}
use Rattle.sfm_readback.proofs.CleanLines.{joined, listed_line, number_line, row_line_line}
use Rattle.sfm_readback.proofs.Ends.{reads_more, stops_stuck}
use Rattle.sfm_readback.proofs.Labels.{label_line}
use Rattle.sfm_readback.proofs.Rules.{LeadsOneWay, LeadsClean, leads-append}
use Rattle.sfm_readback.proofs.Tokens.{count_entry}

abbrev zeros : ℕ → List ℤ
zeros n = replicate n (pos 0)

zero_entry : IsEntry (pos 0)
zero_entry = count_entry 0 (omega arith)

-- slots of rows by a word are clean where the word is, as labels are
pub clean_rows : (word lines : List ℕ) (i : ℕ) (widths : List ℕ) → IsLine word
    → All IsCleanSlot (row_slots word lines i widths)
clean_rows word lines i [] w = All-nil IsCleanSlot
clean_rows word lines i (width ∷ widths) w =
    All-cons IsCleanSlot (row word (label_in lines i) width) (row_slots word lines (i + 1) widths)
    (w, label_line lines i) (clean_rows word lines (i + 1) widths w)

module _ (names : List (List ℕ)) where
  -- ---- the rule

  abbrev pub FillOn : List Slot → List (List ℕ) → List Slot → Type 0
  FillOn slots lines left = LeadsOnBy (FillsNext names) slots lines left

  pub one_way : LeadsOneWay (FillsNext names)
  one_way [] line t u h k = absurd h
  one_way (slot ∷ slots) line t u h k = h.2 ∙ sym k.2

  pub are_clean : LeadsClean (FillsNext names)
  are_clean [] line t h = absurd h
  are_clean (slot ∷ slots) line t h = h.0

  -- ---- lines that fill the first slots are the first ones of lines that fill all

  clean_left : (slots : List Slot) (lines : List (List ℕ)) (left : List Slot)
      → All IsCleanSlot slots → FillOn slots lines left → All IsCleanSlot left
  clean_left slots [] left c h = subst (λ (s : List Slot). All IsCleanSlot s) h c
  clean_left [] (line ∷ lines) left c h = absurd h.1
  clean_left (slot ∷ slots) (line ∷ lines) left c h =
      clean_left h.0 lines left (subst (λ (s : List Slot). All IsCleanSlot s) (sym h.1.2)
      (All-tail IsCleanSlot slot slots c)) h.2

  abbrev no_members : List Bool
  no_members = replicate (length names) false

  fill_one : (slot : Slot) → All IsName names → IsCleanSlot slot → (line : List ℕ) × IsLine line
      × Fills names slot line
  fill_one (exact text) named c = (text, c, refl)
  fill_one (value word) named c = (
    word ++ signed_decimal (pos 0),
    joined word (signed_decimal (pos 0)) c (number_line (pos 0)),
    (pos 0, (zero_entry, refl)),
  )
  fill_one (set word) named c = (
    word ++ listed names no_members,
    joined word (listed names no_members) c (listed_line names no_members named),
    (no_members, (length-replicate (length names) false, refl)),
  )
  fill_one (row word label width) named c = (
    row_line word label (zeros width),
    row_line_line word label (zeros width) c.0 c.1,
    (
      zeros width,
      (
        length-replicate width (pos 0),
        All-replicate IsEntry width (pos 0) zero_entry,
        refl,
      ),
    ),
  )

  fill_all : (slots : List Slot) → All IsName names → All IsCleanSlot slots
      → (lines : List (List ℕ)) × FillOn slots lines []
  fill_all [] named c = ([], refl)
  fill_all (slot ∷ slots) named c =
      let one = fill_one slot named (All-head IsCleanSlot slot slots c) in
      let more = fill_all slots named (All-tail IsCleanSlot slot slots c) in
      (one.0 ∷ more.0, (slots, (one.1, one.2, refl), more.1))

  pub goes_on : (slots : List Slot) (lines : List (List ℕ)) (left : List Slot) → All IsName names
      → All IsCleanSlot slots → FillOn slots lines left
      → (more : List (List ℕ)) × FillOn slots (lines ++ more) []
  goes_on slots lines left named c h =
      let more = fill_all left named (clean_left slots lines left c h) in
      (more.0, leads-append (FillsNext names) slots lines left more.0 [] h more.1)

  -- ---- rows

  pub rows_fill : (word lines : List ℕ) (i : ℕ) (rows : List (List ℤ)) (left : List Slot)
      → IsLine word → All (λ x. All IsEntry x) rows
      → FillOn (row_slots word lines i (map length rows) ++ left) (row_lines word lines i rows) left
  rows_fill word lines i [] left w h = refl
  rows_fill word lines i (x ∷ rows) left w h = (
    row_slots word lines (i + 1) (map length rows) ++ left,
    (
      row_line_line word (label_in lines i) x w (label_line lines i),
      (x, (refl, All-head (λ (y : List ℤ). All IsEntry y) x rows h, refl)),
      refl,
    ),
    rows_fill word lines (i + 1) rows left w (All-tail (λ (y : List ℤ). All IsEntry y) x rows h),
  )

  -- lines that fill slots of rows, and others behind them
  pub record HoldRows (word layers : List ℕ) (i : ℕ) (widths : List ℕ) (left : List Slot)
      (lines : List (List ℕ)) : Type 0 where
    pub rows : List (List ℤ)
    pub more : List (List ℕ)
    pub formed : AreFormedRows widths rows
    pub cut : lines ≡ row_lines word layers i rows ++ more
    pub behind : FillOn left more []

  not_filled : (slot : Slot) (slots : List Slot) → slot ∷ slots ≡ [] → ⊥
  not_filled slot slots e = cc

  pub hold_rows : (word layers : List ℕ) (i : ℕ) (widths : List ℕ) (left : List Slot)
      (lines : List (List ℕ)) → FillOn (row_slots word layers i widths ++ left) lines []
      → HoldRows word layers i widths left lines
  hold_rows word layers i [] left lines h = record {
    rows = [];
    more = lines;
    formed = record { widths_are = refl; small = All-nil (λ (x : List ℤ). All IsEntry x) };
    cut = refl;
    behind = h;
  }
  hold_rows word layers i (width ∷ widths) left [] h = absurd (not_filled _ _ h)
  hold_rows word layers i (width ∷ widths) left (line ∷ lines)
      (next, (clean, (x, is), goes), more) =
      let h = hold_rows word layers (i + 1) widths left lines
      (subst (λ (s : List Slot). FillOn s lines []) goes more) in
      record {
        rows = x ∷ h.rows;
        more = h.more;
        formed = record {
          widths_are = ap (λ (n : ℕ). n ∷ map length h.rows) is.0
              ∙ ap (λ (w : List ℕ). width ∷ w) h.formed.widths_are;
          small = All-cons (λ (y : List ℤ). All IsEntry y) x h.rows is.1 h.formed.small;
        };
        cut = ap (λ (l : List ℕ). l ∷ lines) is.2
            ∙ ap (λ (l : List (List ℕ)). row_line word (label_in layers i) x ∷ l) h.cut;
        behind = h.behind;
      }

  -- ---- reading

  module _ (text : List ℕ) (from : Cursor) (all : List Slot) where
    -- a slot more is filled
    pub slot_read : (to to' : Cursor) (slot : Slot) (left : List Slot) (lines : List (List ℕ))
        (IsGood : List ℕ → Type 0)
        → ReadsBy (FillsNext names) text from to all (slot ∷ left) lines
        → (t : TakesSome text to to' IsGood) → (IsGood t.line → Fills names slot t.line)
        → ReadsBy (FillsNext names) text from to' all left (lines ++ t.line ∷ [])
    slot_read to to' slot left lines IsGood r t good =
        reads_more (FillsNext names) text from to to' all (slot ∷ left) left lines t.line r t.takes
        t.within (t.takes.next.is_line, good t.good, refl)

    -- the next line fills no slot
    pub slot_stuck : (to : Cursor) (slot : Slot) (left : List Slot) (lines : List (List ℕ))
        (end : AnswerEnd)
        → ReadsBy (FillsNext names) text from to all (slot ∷ left) lines
        → EndsStuck text to (Fills names slot) end
        → EndsAtBy (FillsNext names) [] text from all end
    slot_stuck to slot left lines end r s =
        stops_stuck (FillsNext names) text [] from to all (slot ∷ left) lines (Fills names slot) end
        r s (λ line after n l. l.1) (not_filled slot left)
