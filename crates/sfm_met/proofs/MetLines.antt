-- Lines fill the slots of a text one by one where they are the lines of what it says.
use Rattle.std.proofs.Common.{◌≡◌, ◌≢◌, ℕ, Bool, List, [], ◌∷◌, ◌++◌, length, ℤ, refl, sym, ap, subst, ◌∙◌, append_assoc}
use Rattle.std.specs.Prelude.{codes}
use Rattle.std.specs.Fmt.{signed_decimal}
use Rattle.std.specs.List.{All}
use Rattle.std.proofs.lemmas.List.Elements.{All-nil, All-cons, All-append}
use Rattle.sfm_spec.specs.Bounds.{IsEntry}
use Rattle.sfm_spec.specs.Names.{IsName}
use Rattle.sfm_cert.specs.Answer.{Form, listed, row_lines, text_of}
use Rattle.sfm_cert.specs.LineLists.{row_line, numbered}
use Rattle.sfm_cert.specs.Form.{AreFormedRows}
use Rattle.sfm_cert.specs.Grammar.{BeginsOne, IsBadLineOf, IsLine}
use Rattle.sfm_readback.specs.Reading.{LeadsOnBy, StopsBy}
use Rattle.sfm_readback.specs.Slots.{Slot, exact, value, set, row, FillsNext, IsCleanSlot, row_slots}
use Rattle.sfm_readback.specs.declared.cursor.Cursor.{Cursor}
use Rattle.sfm_readback.proofs.CleanLines.{joined, listed_line, number_line, numbered_line, word_line}
use Rattle.sfm_readback.proofs.Rules.{leads-append, first_bad, one_list}
use Rattle.sfm_readback.proofs.Slots.{one_way, are_clean, goes_on, rows_fill, hold_rows, clean_rows}
use Rattle.sfm_meet.specs.Met.{MetAnswer}
use Rattle.sfm_met.specs.MetText.{IsFormedMet, met_lines}
use Rattle.sfm_met.specs.MetSlots.{slots_of, base_slots, right_slots}

module _ (lf rf : Form) (named : All IsName lf.names) where
  abbrev Fill : List Slot → List (List ℕ) → List Slot → Type 0
  Fill slots lines left = LeadsOnBy (FillsNext lf.names) slots lines left

  -- ---- the lines of what a text says fill the slots

  rows_then : (word lines widths : List ℕ) (rows : List (List ℤ)) (left : List Slot)
      (more : List (List ℕ)) → IsLine word → AreFormedRows widths rows → Fill left more []
      → Fill (row_slots word lines 1 widths ++ left) (row_lines word lines 1 rows ++ more) []
  rows_then word lines widths rows left more w f h =
      leads-append (FillsNext lf.names) (row_slots word lines 1 widths ++ left)
      (row_lines word lines 1 rows) left more []
      (subst (λ (x : List ℕ). Fill (row_slots word lines 1 x ++ left) (row_lines word lines 1 rows)
      left) f.widths_are (rows_fill lf.names word lines 1 rows left w f.small)) h

  end_filled : Fill (exact (codes "end") ∷ []) (codes "end" ∷ []) []
  end_filled = ([], (word_line (codes "end") refl, refl, refl), refl)

  pub lines_fill : (a : MetAnswer) → IsFormedMet lf rf a
      → Fill (slots_of lf rf) (met_lines lf rf a) []
  lines_fill a f = (
    _,
    (word_line (codes "meet 1") refl, refl, refl),
    (
      _,
      (
        joined (codes "value ") (signed_decimal a.value) (word_line (codes "value ") refl)
            (number_line a.value),
        (a.value, (f.value, refl)),
        refl,
      ),
      (
        _,
        (
          joined (codes "set") (listed lf.names a.members) (word_line (codes "set") refl)
              (listed_line lf.names a.members named),
          (a.members, (f.members, refl)),
          refl,
        ),
        (
          _,
          (
            joined (codes "common") (numbered a.common) (word_line (codes "common") refl)
                (numbered_line a.common),
            (a.common, (f.count, f.common, refl)),
            refl,
          ),
          subst (λ (x : List (List ℕ)). Fill (base_slots lf rf) x [])
              (sym (append_assoc (row_lines (codes "left ") lf.lines 1 a.left)
              (row_lines (codes "right ") rf.lines 1 a.right) (codes "end" ∷ [])))
              (rows_then (codes "left ") lf.lines lf.widths a.left (right_slots rf)
              (row_lines (codes "right ") rf.lines 1 a.right ++ codes "end" ∷ [])
              (word_line (codes "left ") refl) f.left_rows
              (rows_then (codes "right ") rf.lines rf.widths a.right (exact (codes "end") ∷ [])
              (codes "end" ∷ []) (word_line (codes "right ") refl) f.right_rows end_filled)),
        ),
      ),
    ),
  )

  -- ---- lines that fill the slots are those of what a text says

  only_end : (lines : List (List ℕ)) → Fill (exact (codes "end") ∷ []) lines []
      → lines ≡ codes "end" ∷ []
  only_end [] e = cc
  only_end (line ∷ []) (next, (clean, is, goes), e) = ap (λ (l : List ℕ). l ∷ []) is
  only_end (line ∷ x ∷ lines) (next, (clean, is, goes), (after, fills, more)) =
      absurd (subst (λ (s : List Slot). FillsNext lf.names s x after) goes fills)

  pub record Says (lines : List (List ℕ)) : Type 0 where
    pub answer : MetAnswer
    pub formed : IsFormedMet lf rf answer
    pub cut : met_lines lf rf answer ≡ lines

  says : (v : ℤ) (s : List Bool) (x : List ℤ) (lines : List (List ℕ)) → IsEntry v
      → length s ≡ length lf.names → length x ≡ length lf.names → All IsEntry x
      → Fill (base_slots lf rf) lines []
      → Says (codes "meet 1" ∷ (codes "value " ++ signed_decimal v)
      ∷ (codes "set" ++ listed lf.names s) ∷ row_line (codes "common") [] x ∷ lines)
  says v s x lines hv hs nx hx h =
      let left = hold_rows lf.names (codes "left ") lf.lines 1 lf.widths (right_slots rf) lines h in
      let right = hold_rows lf.names (codes "right ") rf.lines 1 rf.widths
      (exact (codes "end") ∷ []) left.more left.behind in
      record {
        answer = record {
          value = v;
          members = s;
          common = x;
          left = left.rows;
          right = right.rows;
        };
        formed = record {
          value = hv;
          members = hs;
          count = nx;
          common = hx;
          left_rows = left.formed;
          right_rows = right.formed;
        };
        cut = ap (λ (l : List (List ℕ)).
            codes "meet 1" ∷ (codes "value " ++ signed_decimal v)
            ∷ (codes "set" ++ listed lf.names s) ∷ row_line (codes "common") [] x ∷ l)
            (append_assoc (row_lines (codes "left ") lf.lines 1 left.rows)
            (row_lines (codes "right ") rf.lines 1 right.rows) (codes "end" ∷ [])
            ∙ ap (λ (l : List (List ℕ)). row_lines (codes "left ") lf.lines 1
            left.rows ++ (row_lines (codes "right ") rf.lines 1 right.rows ++ l))
            (sym (only_end right.more right.behind))
            ∙ ap (λ (l : List (List ℕ)). row_lines (codes "left ") lf.lines 1 left.rows ++ l)
            (sym right.cut) ∙ sym left.cut);
      }

  none_left : (slot : Slot) (slots : List Slot) → slot ∷ slots ≡ [] → ⊥
  none_left slot slots e = cc

  four : {a a' b b' c c' d d' : List ℕ} → a ≡ a' → b ≡ b' → c ≡ c' → d ≡ d'
      → (lines : List (List ℕ)) → a ∷ b ∷ c ∷ d ∷ lines ≡ a' ∷ b' ∷ c' ∷ d' ∷ lines
  four e f g h lines = cc

  pub says_all : (lines : List (List ℕ)) → Fill (slots_of lf rf) lines [] → Says lines
  says_all [] e = absurd (none_left _ _ e)
  says_all (l0 ∷ []) (s1, h1, e) = absurd (none_left _ _ (sym h1.2 ∙ e))
  says_all (l0 ∷ l1 ∷ []) (s1, h1, (s2, h2, e)) =
      let k2 = subst (λ (s : List Slot). FillsNext lf.names s l1 s2) h1.2 h2 in
      absurd (none_left _ _ (sym k2.2 ∙ e))
  says_all (l0 ∷ l1 ∷ l2 ∷ []) (s1, h1, (s2, h2, (s3, h3, e))) =
      let k2 = subst (λ (s : List Slot). FillsNext lf.names s l1 s2) h1.2 h2 in
      let k3 = subst (λ (s : List Slot). FillsNext lf.names s l2 s3) k2.2 h3 in
      absurd (none_left _ _ (sym k3.2 ∙ e))
  says_all (l0 ∷ l1 ∷ l2 ∷ l3 ∷ lines) (s1, h1, (s2, h2, (s3, h3, (s4, h4, more)))) =
      let k2 = subst (λ (s : List Slot). FillsNext lf.names s l1 s2) h1.2 h2 in
      let k3 = subst (λ (s : List Slot). FillsNext lf.names s l2 s3) k2.2 h3 in
      let k4 = subst (λ (s : List Slot). FillsNext lf.names s l3 s4) k3.2 h4 in
      let (v, is2) = k2.1 in
      let (s, is3) = k3.1 in
      let (x, is4) = k4.1 in
      let w = says v s x lines is2.0 is3.0 is4.0 is4.1
      (subst (λ (s : List Slot). Fill s lines []) k4.2 more) in
      record {
        answer = w.answer;
        formed = w.formed;
        cut = w.cut ∙ four (sym h1.1) (sym is2.1) (sym is3.1) (sym is4.2) lines;
      }

  -- ---- the first bad line

  clean_slots : All IsCleanSlot (slots_of lf rf)
  clean_slots =
      let common : Slot = row (codes "common") [] (length lf.names) in
      let bases = base_slots lf rf in
      All-cons IsCleanSlot (exact (codes "meet 1"))
      (value (codes "value ") ∷ set (codes "set") ∷ common ∷ bases)
      (word_line (codes "meet 1") refl)
      (All-cons IsCleanSlot (value (codes "value ")) (set (codes "set") ∷ common ∷ bases)
      (word_line (codes "value ") refl)
      (All-cons IsCleanSlot (set (codes "set")) (common ∷ bases) (word_line (codes "set") refl)
      (All-cons IsCleanSlot common bases (word_line (codes "common") refl, All-nil (λ c. c ≢ 10))
      (All-append IsCleanSlot (row_slots (codes "left ") lf.lines 1 lf.widths) (right_slots rf)
      (clean_rows (codes "left ") lf.lines 1 lf.widths (word_line (codes "left ") refl))
      (All-append IsCleanSlot (row_slots (codes "right ") rf.lines 1 rf.widths)
      (exact (codes "end") ∷ []) (clean_rows (codes "right ") rf.lines 1 rf.widths
      (word_line (codes "right ") refl))
      (All-cons IsCleanSlot (exact (codes "end")) [] (word_line (codes "end") refl)
      (All-nil IsCleanSlot)))))))

  begins : (lines : List (List ℕ)) (left : List Slot) → Fill (slots_of lf rf) lines left
      → BeginsOne (IsFormedMet lf rf) (met_lines lf rf) lines
  begins lines left h =
      let more = goes_on lf.names (slots_of lf rf) lines left named clean_slots h in
      let w = says_all (lines ++ more.0) more.1 in
      (w.answer, more.0, w.formed, w.cut)

  pub bad_line : (text : List ℕ) (from : Cursor) (number : ℕ) → from.at ≡ 0 → from.line ≡ 1
      → StopsBy (FillsNext lf.names) [] text from (slots_of lf rf) number
      → IsBadLineOf (IsFormedMet lf rf) (met_lines lf rf) text number
  bad_line text from number zero_at one_line h =
      first_bad (FillsNext lf.names) (slots_of lf rf) [] (IsFormedMet lf rf) (met_lines lf rf)
      (one_way lf.names) (are_clean lf.names) lines_fill begins text from number zero_at
      one_line h

  -- ---- a text has one list of lines

  pub same_lines : (a b : MetAnswer) → IsFormedMet lf rf a → IsFormedMet lf rf b
      → text_of (met_lines lf rf a) ≡ text_of (met_lines lf rf b)
      → met_lines lf rf a ≡ met_lines lf rf b
  same_lines a b ha hb e =
      one_list (FillsNext lf.names) (slots_of lf rf) [] (IsFormedMet lf rf) (met_lines lf rf)
      (one_way lf.names) (are_clean lf.names) lines_fill begins a b ha hb e
