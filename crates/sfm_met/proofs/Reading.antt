-- The lines of a text, read one by one.
use Rattle.std.proofs.Common.{◌≡◌, ℕ, ◌+◌, ◌<◌, ◌≤◌, Result, List, [], ◌∷◌, ◌++◌, length, take, drop, get_or, map, ℤ, Bool, refl, sym, ap, subst, ◌∙◌, arith}
use Rattle.std.specs.Prelude.{IfErr, IsErrAnd, codes}
use Rattle.std.specs.List.{All}
use Rattle.std.proofs.lemmas.List.{length_push, drop_more, take_more, map_push, drop_all, take_all}
use Rattle.std.proofs.lemmas.List.Elements.{All-nil, All-push}
use Rattle.sfm_spec.specs.Bounds.{IsEntry}
use Rattle.sfm_cert.specs.Answer.{Form, row_lines}
use Rattle.sfm_cert.specs.Labels.{label_in}
use Rattle.sfm_cert.specs.LineLists.{row_line}
use Rattle.sfm_cert.specs.declared.solved.AnswerEnd.{AnswerEnd}
use Rattle.sfm_cert.proofs.AnswerLines.{row_lines-push}
use Rattle.sfm_readback.specs.Lines.{IsRowLine, IsSetLine, IsValueLine}
use Rattle.sfm_readback.specs.Reading.{EndsAtBy, EndsStuck, ReadsBy, Takes, TakesSome}
use Rattle.sfm_readback.specs.Slots.{FillsNext, Slot, exact, row, row_slots, set, value}
use Rattle.sfm_readback.specs.declared.cursor.Cursor.{Cursor}
use Rattle.sfm_readback.proofs.Ends.{passed_on, reads_begin, reads_more}
use Rattle.sfm_readback.proofs.Slots.{slot_read, slot_stuck}
use Rattle.sfm_met.specs.MetSlots.{told_slots}
use Rattle.sfm_met.specs.MetReading.{ReadsSide, ReadsTold}

-- ---- rows

-- an end at the rows, whatever is due behind them
abbrev pub SideEnds : List ℕ → Form → List ℕ → Cursor → AnswerEnd → Type 0
SideEnds word form text from end = (names : List (List ℕ)) (more : List Slot)
    → EndsAtBy (FillsNext names) [] text from (row_slots word form.lines 1 form.widths ++ more) end

module _ (word : List ℕ) (form : Form) (text : List ℕ) where
  pub record RowsSoFar (from to : Cursor) (i : ℕ) (rows : List (List ℤ)) : Type 0 where
    pub within : to.at ≤ length text
    pub count : length rows ≡ i
    pub reads : (names : List (List ℕ)) (more : List Slot)
        → ReadsBy (FillsNext names) text from to (row_slots word form.lines 1 form.widths ++ more)
        (row_slots word form.lines (i + 1) (drop i form.widths) ++ more)
        (row_lines word form.lines 1 rows)
    pub widths_are : map length rows ≡ take i form.widths
    pub small : All (λ x. All IsEntry x) rows

  -- the row of a place is due, of so many numbers
  pub record IsDue (i width : ℕ) : Type 0 where
    pub below : i < length form.widths
    pub is : get_or form.widths i 0 ≡ width

  widths_due : (i width : ℕ) → IsDue i width → drop i form.widths ≡ width ∷ drop (i + 1) form.widths
  widths_due i width d = drop_more form.widths i 0 d.below
      ∙ ap (λ n. n ∷ drop (i + 1) form.widths) d.is

  pub rows_begin : (from : Cursor) → from.at ≤ length text → RowsSoFar from from 0 []
  rows_begin from h = record {
    within = h;
    count = refl;
    reads = λ names more. reads_begin (FillsNext names) text from
        (row_slots word form.lines 1 form.widths ++ more) h;
    widths_are = refl;
    small = All-nil (λ (x : List ℤ). All IsEntry x);
  }

  -- what is due before the row
  before : (from to : Cursor) (i width : ℕ) (rows : List (List ℤ)) → IsDue i width
      → RowsSoFar from to i rows → (names : List (List ℕ)) (more : List Slot)
      → ReadsBy (FillsNext names) text from to (row_slots word form.lines 1 form.widths ++ more)
      (row word (label_in form.lines (i + 1))
      width ∷ (row_slots word form.lines (i + 1 + 1) (drop (i + 1) form.widths) ++ more))
      (row_lines word form.lines 1 rows)
  before from to i width rows d r names more =
      subst (λ (l : List ℕ). ReadsBy (FillsNext names) text from to
      (row_slots word form.lines 1 form.widths ++ more)
      (row_slots word form.lines (i + 1) l ++ more) (row_lines word form.lines 1 rows))
      (widths_due i width d) (r.reads names more)

  pub rows_more : (from to to' : Cursor) (i width : ℕ) (rows : List (List ℤ)) (x : List ℤ)
      → IsDue i width → RowsSoFar from to i rows
      → TakesSome text to to' (λ line. IsRowLine word (label_in form.lines (i + 1)) width line x)
      → RowsSoFar from to' (i + 1) (rows ++ x ∷ [])
  rows_more from to to' i width rows x d r t = record {
    within = t.within;
    count = omega (arith, length_push rows x, r.count);
    reads = λ names more.
        let lines_are : row_lines word form.lines 1 rows ++ t.line ∷ [] ≡ row_lines word form.lines
        1 (rows ++ x ∷ []) = ap (λ l. row_lines word form.lines 1 rows ++ l ∷ [])
        (t.good.2 ∙ ap (λ n. row_line word (label_in form.lines n) x) (omega (arith, r.count)))
        ∙ sym (row_lines-push word form.lines 1 rows x) in
        subst (λ (l : List (List ℕ)). ReadsBy (FillsNext names) text from to'
        (row_slots word form.lines 1 form.widths ++ more)
        (row_slots word form.lines (i + 1 + 1) (drop (i + 1) form.widths) ++ more) l) lines_are
        (slot_read names text from (row_slots word form.lines 1 form.widths ++ more) to to'
        (row word (label_in form.lines (i + 1)) width)
        (row_slots word form.lines (i + 1 + 1) (drop (i + 1) form.widths) ++ more)
        (row_lines word form.lines 1 rows)
        (λ line. IsRowLine word (label_in form.lines (i + 1)) width line x)
        (before from to i width rows d r names more) t (λ g. (x, g)));
    widths_are = map_push length rows x ∙ ap (λ l. l ++ length x ∷ []) r.widths_are
        ∙ ap (λ n. take i form.widths ++ n ∷ []) (t.good.0 ∙ sym d.is)
        ∙ sym (take_more form.widths i 0 d.below);
    small = All-push (λ (y : List ℤ). All IsEntry y) rows x r.small t.good.1;
  }

  pub rows_stop : {A : Type 0} (result : Result A AnswerEnd) (from to : Cursor) (i width : ℕ)
      (rows : List (List ℤ)) (end : AnswerEnd) → IsErrAnd result (λ e. e ≡ end) → IsDue i width
      → RowsSoFar from to i rows
      → EndsStuck text to (λ line. (x : List ℤ)
      × IsRowLine word (label_in form.lines (i + 1)) width line x) end
      → IfErr result (SideEnds word form text from)
  rows_stop result from to i width rows end is d r s =
      passed_on result end (SideEnds word form text from) is (λ names more.
      slot_stuck names text from (row_slots word form.lines 1 form.widths ++ more) to
      (row word (label_in form.lines (i + 1)) width)
      (row_slots word form.lines (i + 1 + 1) (drop (i + 1) form.widths) ++ more)
      (row_lines word form.lines 1 rows) end
      (before from to i width rows d r names more) s)

  pub rows_end : (from to : Cursor) (i : ℕ) (rows : List (List ℤ)) → length form.widths ≤ i
      → RowsSoFar from to i rows → ReadsSide word form text from to rows
  rows_end from to i rows h r = record {
    within = r.within;
    reads = λ names more. subst (λ (l : List ℕ). ReadsBy (FillsNext names) text from to
        (row_slots word form.lines 1 form.widths ++ more)
        (row_slots word form.lines (i + 1) l ++ more) (row_lines word form.lines 1 rows))
        (drop_all i form.widths h) (r.reads names more);
    formed = record { widths_are = r.widths_are ∙ take_all i form.widths h; small = r.small };
  }

-- ---- the first lines

-- an end at the first lines, whatever is due behind them
abbrev pub ToldEnds : List (List ℕ) → List ℕ → Cursor → AnswerEnd → Type 0
ToldEnds names text from end = (more : List Slot)
    → EndsAtBy (FillsNext names) [] text from (told_slots names more) end

module _ (names : List (List ℕ)) (text : List ℕ) (c0 : Cursor) (within : c0.at ≤ length text) where
  abbrev common_slot : Slot
  common_slot = row (codes "common") [] (length names)

  abbrev after_one : List Slot → List Slot
  after_one more = value (codes "value ") ∷ set (codes "set") ∷ row (codes "common") []
      (length names) ∷ more

  abbrev after_two : List Slot → List Slot
  after_two more = set (codes "set") ∷ row (codes "common") [] (length names) ∷ more

  abbrev Read : Cursor → List Slot → List Slot → List (List ℕ) → Type 0
  Read to more left lines = ReadsBy (FillsNext names) text c0 to (told_slots names more) left lines

  r0 : (more : List Slot) → Read c0 more (told_slots names more) []
  r0 more = reads_begin (FillsNext names) text c0 (told_slots names more) within

  pub stop_header : {A : Type 0} (r : Result A AnswerEnd) (end : AnswerEnd)
      → IsErrAnd r (λ e. e ≡ end) → EndsStuck text c0 (λ line. line ≡ codes "meet 1") end
      → IfErr r (ToldEnds names text c0)
  stop_header r end is s = passed_on r end (ToldEnds names text c0) is (λ more.
      slot_stuck names text c0 (told_slots names more) c0 (exact (codes "meet 1")) (after_one more)
      [] end (r0 more) s)

  module _ {c1 : Cursor} (t1 : Takes text c0 c1 (codes "meet 1"))
      (within1 : c1.at ≤ length text) where
    r1 : (more : List Slot) → Read c1 more (after_one more) (codes "meet 1" ∷ [])
    r1 more = reads_more (FillsNext names) text c0 c0 c1 (told_slots names more)
        (told_slots names more) (after_one more) [] (codes "meet 1") (r0 more) t1 within1
        (t1.next.is_line, refl, refl)

    pub stop_value : {A : Type 0} (r : Result A AnswerEnd) (end : AnswerEnd)
        → IsErrAnd r (λ e. e ≡ end) → EndsStuck text c1
        (λ line. (v : ℤ) × IsValueLine (codes "value ") line v) end
        → IfErr r (ToldEnds names text c0)
    stop_value r end is s = passed_on r end (ToldEnds names text c0) is (λ more.
        slot_stuck names text c0 (told_slots names more) c1 (value (codes "value "))
        (after_two more) (codes "meet 1" ∷ []) end (r1 more) s)

    module _ {c2 : Cursor} (v : ℤ)
        (t2 : TakesSome text c1 c2 (λ line. IsValueLine (codes "value ") line v)) where
      r2 : (more : List Slot) → Read c2 more (after_two more) (codes "meet 1" ∷ t2.line ∷ [])
      r2 more = slot_read names text c0 (told_slots names more) c1 c2 (value (codes "value "))
          (after_two more) (codes "meet 1" ∷ []) (λ line. IsValueLine (codes "value ") line v)
          (r1 more) t2 (λ g. (v, g))

      pub stop_set : {A : Type 0} (r : Result A AnswerEnd) (end : AnswerEnd)
          → IsErrAnd r (λ e. e ≡ end)
          → EndsStuck text c2 (λ line. (s : List Bool) × IsSetLine (codes "set") names line s) end
          → IfErr r (ToldEnds names text c0)
      stop_set r end is s = passed_on r end (ToldEnds names text c0) is (λ more.
          slot_stuck names text c0 (told_slots names more) c2 (set (codes "set"))
          (common_slot ∷ more) (codes "meet 1" ∷ t2.line ∷ []) end (r2 more) s)

      module _ {c3 : Cursor} (m : List Bool)
          (t3 : TakesSome text c2 c3 (λ line. IsSetLine (codes "set") names line m)) where
        r3 : (more : List Slot) → Read c3 more (common_slot ∷ more)
            (codes "meet 1" ∷ t2.line ∷ t3.line ∷ [])
        r3 more = slot_read names text c0 (told_slots names more) c2 c3 (set (codes "set"))
            (common_slot ∷ more) (codes "meet 1" ∷ t2.line ∷ [])
            (λ line. IsSetLine (codes "set") names line m) (r2 more) t3 (λ g. (m, g))

        pub stop_common : {A : Type 0} (r : Result A AnswerEnd) (end : AnswerEnd)
            → IsErrAnd r (λ e. e ≡ end)
            → EndsStuck text c3 (λ line. (x : List ℤ)
            × IsRowLine (codes "common") [] (length names) line x) end
            → IfErr r (ToldEnds names text c0)
        stop_common r end is s = passed_on r end (ToldEnds names text c0) is (λ more.
            slot_stuck names text c0 (told_slots names more) c3 common_slot more
            (codes "meet 1" ∷ t2.line ∷ t3.line ∷ []) end (r3 more) s)

        pub reads_told : {c4 : Cursor} (x : List ℤ)
            → TakesSome text c3 c4 (λ line. IsRowLine (codes "common") [] (length names) line x)
            → ReadsTold names text c0 c4 v m x
        reads_told {c4 = c4} x t4 = record {
          within = t4.within;
          reads = λ more. subst (λ (l : List (List ℕ)). Read c4 more more l)
              (same t2.good.1 t3.good.1 t4.good.2)
              (slot_read names text c0 (told_slots names more) c3 c4 common_slot more
              (codes "meet 1" ∷ t2.line ∷ t3.line ∷ [])
              (λ line. IsRowLine (codes "common") [] (length names) line x) (r3 more) t4
              (λ g. (x, g)));
          small = t2.good.0;
          places = t3.good.0;
          count = t4.good.0;
          entries = t4.good.1;
        } where
          same : {a b b' c c' d d' : List ℕ} → b ≡ b' → c ≡ c' → d ≡ d'
              → a ∷ b ∷ c ∷ d ∷ [] ≡ a ∷ b' ∷ c' ∷ d' ∷ []
          same f g h = cc
