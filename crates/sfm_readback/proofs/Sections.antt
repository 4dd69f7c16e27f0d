-- The sections of an answer text, read one by one.
use Rattle.std.proofs.Common.{◌≡◌, ℕ, ◌+◌, ◌<◌, ◌≤◌, Result, List, [], ◌∷◌, ◌++◌, length, take, drop, get_or, map, refl, sym, ap, subst, ◌∙◌, append_assoc}
use Rattle.std.specs.Prelude.{IfErr, IsErrAnd}
use Rattle.std.specs.List.{All}
use Rattle.std.proofs.lemmas.List.{drop_more, take_more, drop_all, take_all}
use Rattle.std.proofs.lemmas.List.Elements.{All-nil, All-push}
use Rattle.sfm_cert.specs.Answer.{Break, Form, slope_line, at_line}
use Rattle.sfm_cert.specs.LineLists.{slope_lines, base_lines, break_lines}
use Rattle.sfm_cert.specs.Form.{IsFormedBreak}
use Rattle.sfm_cert.specs.declared.solved.AnswerEnd.{AnswerEnd}
use Rattle.sfm_cert.proofs.AnswerLines.{slope_lines-push, break_lines-push}
use Rattle.sfm_readback.specs.Lines.{IsSlopeLine, Ratio, ratio_of}
use Rattle.sfm_readback.specs.Parts.{ReadsRows, ReadsBreaks, AreBreaksOf, AreHeads}
use Rattle.sfm_readback.specs.Reading.{bases, Reads, EndsAt, EndsStuck, TakesSome, ended, Leads}
use Rattle.sfm_readback.specs.declared.cursor.Cursor.{Cursor}
use Rattle.sfm_readback.proofs.Ends.{passed_on, reads_begin, reads_more, reads_then, stops_stuck, stops_then}

module _ (form : Form) (text : List ℕ) (heads : List Break) where
  pub record BreaksSoFar (from to : Cursor) (i : ℕ) (breaks : List Break) : Type 0 where
    pub within : to.at ≤ length text
    pub reads : (k : ℕ) → (j : ℕ) × Reads form text from to (bases k [] (map ratio_of heads))
        (bases j [] (map ratio_of (drop i heads))) (break_lines form.lines breaks)
    pub same : slope_lines form.names breaks ≡ slope_lines form.names (take i heads)
    pub formed : All (IsFormedBreak (length form.names) form.widths) breaks

  pub breaks_begin : (from : Cursor) → from.at ≤ length text → BreaksSoFar from from 0 []
  breaks_begin from h = record {
    within = h;
    reads = λ k. (k, reads_begin (Leads form) text from (bases k [] (map ratio_of heads)) h);
    same = refl;
    formed = All-nil (IsFormedBreak (length form.names) form.widths);
  }

  -- the section of a place is due, that of the slope line b
  pub record IsSectionOf (i : ℕ) (b : Break) : Type 0 where
    pub below : i < length heads
    pub is : get_or heads i b ≡ b

  -- what is due before it, with its slope in front
  at_slope : (from to : Cursor) (i : ℕ) (breaks : List Break) (b : Break) → IsSectionOf i b
      → BreaksSoFar from to i breaks
      → (k : ℕ) → (j : ℕ) × Reads form text from to (bases k [] (map ratio_of heads))
      (bases j [] (map ratio_of (b ∷ drop (i + 1) heads))) (break_lines form.lines breaks)
  at_slope from to i breaks b d so k =
      let r = so.reads k in
      let ds : drop i heads ≡ b ∷ drop (i + 1) heads = drop_more heads i b d.below
      ∙ ap (λ c. c ∷ drop (i + 1) heads) d.is in (
        r.0,
        subst (λ (l : List Break). Reads form text from to (bases k [] (map ratio_of heads))
            (bases r.0 [] (map ratio_of l)) (break_lines form.lines breaks)) ds r.1,
      )

  -- the section of the next slope
  at_next : (from to mid : Cursor) (i : ℕ) (breaks : List Break) (b : Break) → IsSectionOf i b
      → BreaksSoFar from to i breaks → TakesSome text to mid (λ line. line ≡ at_line b.num b.den)
      → (k : ℕ) → Reads form text from mid (bases k [] (map ratio_of heads))
      (bases 1 form.widths (map ratio_of (drop (i + 1) heads)))
      (break_lines form.lines breaks ++ at_line b.num b.den ∷ [])
  at_next from to mid i breaks b d so t k =
      let r = at_slope from to i breaks b d so k in
      subst (λ (l : List ℕ). Reads form text from mid (bases k [] (map ratio_of heads))
      (bases 1 form.widths (map ratio_of (drop (i + 1) heads)))
      (break_lines form.lines breaks ++ l ∷ [])) t.good
      (reads_more (Leads form) text from to mid (bases k [] (map ratio_of heads))
      (bases r.0 [] (map ratio_of (b ∷ drop (i + 1) heads)))
      (bases 1 form.widths (map ratio_of (drop (i + 1) heads))) (break_lines form.lines breaks)
      t.line r.1 t.takes t.within (t.good, refl))

  pub breaks_more : (from to mid to' : Cursor) (i : ℕ) (breaks : List Break) (b c : Break)
      → IsSectionOf i b → AreHeads form heads → BreaksSoFar from to i breaks
      → TakesSome text to mid (λ line. line ≡ at_line b.num b.den)
      → ReadsRows form text mid to' c.bases → c.num ≡ b.num → c.den ≡ b.den
      → c.members ≡ b.members → BreaksSoFar from to' (i + 1) (breaks ++ c ∷ [])
  breaks_more from to mid to' i breaks b c d are so t rows p q m =
      let is = subst (λ (x : Break). (line : List ℕ)
      × IsSlopeLine form.names line (ratio_of x) x.members) d.is (are i b d.below) in
      let line_is : slope_line form.names c ≡ slope_line form.names b = line_of c b p q m in
      record {
        within = rows.within;
        reads = λ k. (
          length c.bases + 1,
          subst (λ (l : List (List ℕ)). Reads form text from to' (bases k [] (map ratio_of heads))
              (bases (length c.bases + 1) [] (map ratio_of (drop (i + 1) heads))) l)
              (append_assoc (break_lines form.lines breaks) (at_line b.num b.den ∷ [])
              (base_lines form.lines 1 c.bases)
              ∙ ap (λ l. break_lines form.lines breaks ++ l ∷ base_lines form.lines 1 c.bases)
              (ap (λ x. at_line x b.den) (sym p) ∙ ap (λ x. at_line c.num x) (sym q))
              ∙ sym (break_lines-push form.lines breaks c))
              (reads_then (Leads form) text from mid to' (bases k [] (map ratio_of heads))
              (bases 1 form.widths (map ratio_of (drop (i + 1) heads)))
              (bases (length c.bases + 1) [] (map ratio_of (drop (i + 1) heads)))
              (break_lines form.lines breaks ++ at_line b.num b.den ∷ [])
              (base_lines form.lines 1 c.bases)
              (at_next from to mid i breaks b d so t k)
              (rows.reads (map ratio_of (drop (i + 1) heads)))),
        );
        same = slope_lines-push form.names breaks c ∙ ap (λ l. l ++ slope_line form.names c ∷ [])
            so.same ∙ ap (λ l. slope_lines form.names (take i heads) ++ l ∷ []) line_is
            ∙ sym (slope_lines-push form.names (take i heads) b)
            ∙ ap (λ x. slope_lines form.names (take i heads ++ x ∷ [])) (sym d.is)
            ∙ ap (slope_lines form.names) (sym (take_more heads i b d.below));
        formed = All-push (IsFormedBreak (length form.names) form.widths) breaks c so.formed
            (record {
              lowest = rw (p, q) is.1.lowest;
              entry = rw p is.1.entry;
              factor = rw q is.1.factor;
              members = rw m is.1.members;
              bases = rows.formed;
            });
      } where
        line_of : (c b : Break) → c.num ≡ b.num → c.den ≡ b.den → c.members ≡ b.members
            → slope_line form.names c ≡ slope_line form.names b
        line_of c b p q m = cc

  -- the reading of a section ends
  stopped : {A : Type 0} (result : Result A AnswerEnd) (from : Cursor) (end : AnswerEnd)
      → IsErrAnd result (λ e. e ≡ end)
      → ((k : ℕ) → EndsAt form text from (bases k [] (map ratio_of heads)) end)
      → IfErr result (λ end. (k : ℕ) → EndsAt form text from (bases k [] (map ratio_of heads)) end)
  stopped result from end is h =
      passed_on result end (λ end. (k : ℕ) → EndsAt form text from (bases k [] (map ratio_of heads))
      end) is h

  pub breaks_stop_at : {A : Type 0} (result : Result A AnswerEnd) (from to : Cursor) (i : ℕ)
      (breaks : List Break) (b : Break) (end : AnswerEnd) → IsErrAnd result (λ e. e ≡ end)
      → IsSectionOf i b → BreaksSoFar from to i breaks
      → EndsStuck text to (λ line. line ≡ at_line b.num b.den) end
      → IfErr result (λ end. (k : ℕ) → EndsAt form text from (bases k [] (map ratio_of heads))
      end)
  breaks_stop_at result from to i breaks b end is d so s = stopped result from end is (λ k.
      let r = at_slope from to i breaks b d so k in
      stops_stuck (Leads form) text ended from to (bases k [] (map ratio_of heads))
      (bases r.0 [] (map ratio_of (b ∷ drop (i + 1) heads))) (break_lines form.lines breaks)
      (λ line. line ≡ at_line b.num b.den) end r.1 s (λ line next n l. l.0) (λ f. cc))

  pub breaks_stop_rows : {A : Type 0} (result : Result A AnswerEnd) (from to mid : Cursor) (i : ℕ)
      (breaks : List Break) (b : Break) (end : AnswerEnd) → IsErrAnd result (λ e. e ≡ end)
      → IsSectionOf i b
      → BreaksSoFar from to i breaks → TakesSome text to mid (λ line. line ≡ at_line b.num b.den)
      → ((due : List Ratio) → EndsAt form text mid (bases 1 form.widths due) end)
      → IfErr result (λ end. (k : ℕ) → EndsAt form text from (bases k [] (map ratio_of heads))
      end)
  breaks_stop_rows result from to mid i breaks b end is d so t s = stopped result from end is (λ k.
      stops_then (Leads form) text ended from mid (bases k [] (map ratio_of heads))
      (bases 1 form.widths (map ratio_of (drop (i + 1) heads)))
      (break_lines form.lines breaks ++ at_line b.num b.den ∷ []) end
      (at_next from to mid i breaks b d so t k) (s (map ratio_of (drop (i + 1) heads))))

  pub breaks_end : (from to : Cursor) (i : ℕ) (breaks : List Break) → length heads ≤ i
      → BreaksSoFar from to i breaks → ReadsBreaks form text from to heads [] breaks
  breaks_end from to i breaks h so = record {
    within = so.within;
    reads = λ k. let r = so.reads
        k in (
          r.0,
          subst (λ (l : List Break). Reads form text from to
              (bases k [] (map ratio_of heads)) (bases r.0 [] (map ratio_of l))
              (break_lines form.lines breaks)) (drop_all i heads h) r.1,
        );
  }

  pub breaks_are : (from to : Cursor) (i : ℕ) (breaks : List Break) → length heads ≤ i
      → BreaksSoFar from to i breaks → AreBreaksOf form heads breaks
  breaks_are from to i breaks h so =
      record {
        same = so.same ∙ ap (slope_lines form.names) (take_all i heads h);
        formed = so.formed;
      }
