-- A text that is read to its end says what was read, and where the reading stops there is the first
-- bad line.
use Rattle.std.proofs.Common.{◌≡◌, ℕ, ◌<◌, ◌≤◌, Bool, Result, List, [], ◌∷◌, ◌++◌, length, drop, ℤ, refl, sym, ap, ◌∙◌}
use Rattle.std.specs.Prelude.{IfErr, IsErrAnd, codes}
use Rattle.std.specs.List.{All}
use Rattle.std.proofs.lemmas.List.{append-nil, drop_all}
use Rattle.sfm_spec.specs.Names.{IsName}
use Rattle.sfm_cert.specs.Answer.{Form, row_lines, text_of}
use Rattle.sfm_cert.specs.Grammar.{IsBadLineOf}
use Rattle.sfm_cert.specs.declared.solved.AnswerEnd.{AnswerEnd}
use Rattle.sfm_cert.specs.declared.solved.AnswerEnd.TheVariants.{BadLine, Memory}
use Rattle.sfm_readback.specs.Reading.{EndsAtBy, EndsStuck, ReadsBy, Takes}
use Rattle.sfm_readback.specs.Slots.{FillsNext, Slot, exact}
use Rattle.sfm_readback.specs.declared.cursor.Cursor.{Cursor}
use Rattle.sfm_readback.proofs.Ends.{passed_on, reads_more, reads_then, stops_then}
use Rattle.sfm_readback.proofs.Slots.{slot_stuck}
use Rattle.sfm_met.specs.MetText.{IsFormedMet, met_lines}
use Rattle.sfm_met.specs.MetSlots.{base_slots, right_slots, slots_of, told_head}
use Rattle.sfm_met.specs.MetReading.{IsBadMetEnd, ReadsSide, ReadsTold, IsMetText}
use Rattle.sfm_met.proofs.MetLines.{bad_line}
use Rattle.sfm_met.proofs.Reading.{SideEnds, ToldEnds}

module _ (lf rf : Form) (named : All IsName lf.names) (text : List ℕ) (c0 : Cursor)
    (zero_at : c0.at ≡ 0) (one_line : c0.line ≡ 1) where
  bad : (end : AnswerEnd) → EndsAtBy (FillsNext lf.names) [] text c0 (slots_of lf rf) end
      → IsBadMetEnd lf rf text end
  bad (BadLine n) h = bad_line lf rf named text c0 n zero_at one_line h
  bad Memory h = tt

  abbrev last_slots : List Slot
  last_slots = exact (codes "end") ∷ []

  pub bad_told : {A : Type 0} (r : Result A AnswerEnd) (end : AnswerEnd) → IsErrAnd r (λ e. e ≡ end)
      → ToldEnds lf.names text c0 end → IfErr r (IsBadMetEnd lf rf text)
  bad_told r end is h = passed_on r end (IsBadMetEnd lf rf text) is (bad end (h (base_slots lf rf)))

  module _ {c1 : Cursor} {v : ℤ} {m : List Bool} {x : List ℤ}
      (t : ReadsTold lf.names text c0 c1 v m x) where
    r1 : ReadsBy (FillsNext lf.names) text c0 c1 (slots_of lf rf) (base_slots lf rf)
        (told_head lf.names v m x)
    r1 = t.reads (base_slots lf rf)

    pub bad_left : {A : Type 0} (r : Result A AnswerEnd) (end : AnswerEnd)
        → IsErrAnd r (λ e. e ≡ end) → SideEnds (codes "left ") lf text c1 end
        → IfErr r (IsBadMetEnd lf rf text)
    bad_left r end is h = passed_on r end (IsBadMetEnd lf rf text) is
        (bad end (stops_then (FillsNext lf.names) text [] c0 c1 (slots_of lf rf) (base_slots lf rf)
        (told_head lf.names v m x) end r1 (h lf.names (right_slots rf))))

    module _ {c2 : Cursor} {xs : List (List ℤ)}
        (l : ReadsSide (codes "left ") lf text c1 c2 xs) where
      abbrev lines2 : List (List ℕ)
      lines2 = told_head lf.names v m x ++ row_lines (codes "left ") lf.lines 1 xs

      r2 : ReadsBy (FillsNext lf.names) text c0 c2 (slots_of lf rf) (right_slots rf) lines2
      r2 = reads_then (FillsNext lf.names) text c0 c1 c2 (slots_of lf rf) (base_slots lf rf)
          (right_slots rf) (told_head lf.names v m x) (row_lines (codes "left ") lf.lines 1 xs) r1
          (l.reads lf.names (right_slots rf))

      pub bad_right : {A : Type 0} (r : Result A AnswerEnd) (end : AnswerEnd)
          → IsErrAnd r (λ e. e ≡ end) → SideEnds (codes "right ") rf text c2 end
          → IfErr r (IsBadMetEnd lf rf text)
      bad_right r end is h = passed_on r end (IsBadMetEnd lf rf text) is
          (bad end (stops_then (FillsNext lf.names) text [] c0 c2 (slots_of lf rf) (right_slots rf)
          lines2 end r2 (h lf.names last_slots)))

      module _ {c3 : Cursor} {ys : List (List ℤ)}
          (k : ReadsSide (codes "right ") rf text c2 c3 ys) where
        abbrev lines3 : List (List ℕ)
        lines3 = lines2 ++ row_lines (codes "right ") rf.lines 1 ys

        r3 : ReadsBy (FillsNext lf.names) text c0 c3 (slots_of lf rf) last_slots lines3
        r3 = reads_then (FillsNext lf.names) text c0 c2 c3 (slots_of lf rf) (right_slots rf)
            last_slots lines2 (row_lines (codes "right ") rf.lines 1 ys) r2
            (k.reads lf.names last_slots)

        pub bad_end : {A : Type 0} (r : Result A AnswerEnd) (end : AnswerEnd)
            → IsErrAnd r (λ e. e ≡ end) → EndsStuck text c3 (λ line. line ≡ codes "end") end
            → IfErr r (IsBadMetEnd lf rf text)
        bad_end r end is s = passed_on r end (IsBadMetEnd lf rf text) is
            (bad end (slot_stuck lf.names text c0 (slots_of lf rf) c3 (exact (codes "end")) []
            lines3 end r3 s))

        module _ {c4 : Cursor} (t4 : Takes text c3 c4 (codes "end"))
            (within4 : c4.at ≤ length text) where
          r4 : ReadsBy (FillsNext lf.names) text c0 c4 (slots_of lf rf) []
              (lines3 ++ codes "end" ∷ [])
          r4 = reads_more (FillsNext lf.names) text c0 c3 c4 (slots_of lf rf) last_slots [] lines3
              (codes "end") r3 t4 within4 (t4.next.is_line, refl, refl)

          pub bad_behind : c4.at < length text
              → IsBadLineOf (IsFormedMet lf rf) (met_lines lf rf) text c4.line
          bad_behind h = bad_line lf rf named text c0 c4.line zero_at one_line
              (record {
                lines = lines3 ++ codes "end" ∷ [];
                to = c4;
                next = [];
                reads = r4;
                number_is = refl;
                none = λ line after n f. f;
                left = λ e. h;
              })

          pub whole_text : length text ≤ c4.at
              → IsMetText lf rf text (record {
                value = v;
                members = m;
                common = x;
                left = xs;
                right = ys;
              })
          whole_text h = record {
            formed = record {
              value = t.small;
              members = t.places;
              count = t.count;
              common = t.entries;
              left_rows = l.formed;
              right_rows = k.formed;
            };
            written = sym (ap (λ n. drop n text) zero_at) ∙ r4.cut
                ∙ ap (λ z. text_of (lines3 ++ codes "end" ∷ []) ++ z) (drop_all c4.at text h)
                ∙ append-nil (text_of (lines3 ++ codes "end" ∷ []));
          }
