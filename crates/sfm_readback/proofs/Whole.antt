-- A whole answer text, read part by part.
use Rattle.std.proofs.Common.{◌≡◌, ◌≢◌, ℕ, ◌+◌, ◌<◌, ◌≤◌, Bool, Result, List, [], ◌∷◌, ◌++◌, length, drop, get_or, map, ℤ, pos, inl, inr, refl, sym, ap, subst, ◌∙◌, arith, append_assoc}
use Rattle.std.specs.Prelude.{IfErr, IsErrAnd, codes}
use Rattle.std.specs.List.{All}
use Rattle.std.specs.Fmt.{decimal, signed_decimal}
use Rattle.std.proofs.lemmas.Fmt.{decimal_digit}
use Rattle.std.proofs.lemmas.List.{append-nil, drop_all}
use Rattle.sfm_spec.specs.Names.{IsName}
use Rattle.sfm_spec.specs.Blocks.{Block}
use Rattle.sfm_cert.specs.Answer.{Break, Form, listed, at_line, text_of}
use Rattle.sfm_cert.specs.LineLists.{block_lines, slope_lines, base_lines, break_lines, IsAnswerText, IsBadLine}
use Rattle.sfm_cert.specs.Grammar.{IsLine}
use Rattle.sfm_cert.specs.Solved.{IsBadLineEnd}
use Rattle.sfm_cert.specs.declared.solved.AnswerEnd.{AnswerEnd}
use Rattle.sfm_cert.specs.declared.solved.AnswerEnd.TheVariants.{BadLine, Memory}
use Rattle.sfm_readback.specs.Lines.{Ratio, ratio_of}
use Rattle.sfm_readback.specs.Parts.{ReadsFirst, ReadsBlocks, ReadsHeads, ReadsRows, ReadsBreaks, AreBreaksOf}
use Rattle.sfm_readback.specs.Reading.{State, header, listing, bases, ended, Leads, Reads, EndsAt, EndsStuck, Takes, IsNextLine}
use Rattle.sfm_readback.specs.declared.cursor.Cursor.{Cursor}
use Rattle.sfm_readback.proofs.BadLines.{bad_line}
use Rattle.sfm_readback.proofs.Ends.{passed_on, reads_more, reads_then, stops_stuck, stops_then, first_byte}

zero_line : at_line (pos 0) (pos 1) ≡ codes "at 0/1"
zero_line = ap (λ x. codes "at " ++ (x ++ codes "/" ++ decimal 1)) (decimal_digit 0 (omega arith))
    ∙ ap (λ x. codes "at 0/" ++ x) (decimal_digit 1 (omega arith))

module _ (form : Form) (clean : IsLine form.header) (named : All IsName form.names) (text : List ℕ)
    (c0 : Cursor) (zero_at : c0.at ≡ 0) (one_line : c0.line ≡ 1) where
  bad_end : (end : AnswerEnd) → EndsAt form text c0 header end → IsBadLineEnd form text end
  bad_end (BadLine number) h = bad_line form clean named text c0 number zero_at one_line h
  bad_end Memory h = tt

  -- an end of the reading of a part is passed on
  pub bad_first : {A : Type 0} (r : Result A AnswerEnd) (end : AnswerEnd)
      → IsErrAnd r (λ e. e ≡ end) → EndsAt form text c0 header end
      → IfErr r (IsBadLineEnd form text)
  bad_first r end is h = passed_on r end (IsBadLineEnd form text) is (bad_end end h)

  abbrev front : ℤ → List Bool → List Bool → List (List ℕ)
  front value low high = form.header ∷ (codes "minimum " ++ signed_decimal value)
      ∷ (codes "least" ++ listed form.names low) ∷ (codes "greatest" ++ listed form.names high) ∷ []

  module _ {c1 : Cursor} {value : ℤ} {low high : List Bool}
      (h1 : ReadsFirst form text c0 c1 value low high) where
    pub bad_blocks : {A : Type 0} (r : Result A AnswerEnd) (end : AnswerEnd)
        → IsErrAnd r (λ e. e ≡ end) → EndsAt form text c1 (listing 0 []) end
        → IfErr r (IsBadLineEnd form text)
    bad_blocks r end is h = bad_first r end is
        (stops_then (Leads form) text ended c0 c1 header (listing 0 []) (front value low high) end
        h1.reads h)

    module _ {c2 : Cursor} {blocks : List Block} (h2 : ReadsBlocks form text c1 c2 blocks)
        (next2 : get_or text c2.at 0 ≢ 98) where
      r2 : Reads form text c0 c2 header (listing (length blocks) [])
          (front value low high ++ block_lines form.names 1 blocks)
      r2 = reads_then (Leads form) text c0 c1 c2 header (listing 0 []) (listing (length blocks) [])
          (front value low high) (block_lines form.names 1 blocks) h1.reads h2.reads

      pub bad_heads : {A : Type 0} (r : Result A AnswerEnd) (end : AnswerEnd)
          → IsErrAnd r (λ e. e ≡ end) → ((k : ℕ) → EndsAt form text c2 (listing k []) end)
          → IfErr r (IsBadLineEnd form text)
      bad_heads r end is h = bad_first r end is
          (stops_then (Leads form) text ended c0 c2 header (listing (length blocks) [])
          (front value low high ++ block_lines form.names 1 blocks) end r2 (h (length blocks)))

      module _ {c3 : Cursor} {heads : List Break} (h3 : ReadsHeads form text c2 c3 heads)
          (next3 : get_or text c3.at 0 ≢ 115) where
        abbrev lines3 : List (List ℕ)
        lines3 = front value low high ++ block_lines form.names 1 blocks ++ slope_lines form.names
            heads

        r3 : Reads form text c0 c3 header (listing (length blocks) (map ratio_of heads)) lines3
        r3 = reads_then (Leads form) text c0 c2 c3 header (listing (length blocks) [])
            (listing (length blocks) (map ratio_of heads))
            (front value low high ++ block_lines form.names 1 blocks) (slope_lines form.names heads)
            r2 (h3.reads (length blocks))

        only_at : (line : List ℕ) (next : State) → IsNextLine text c3.at line
            → Leads form (listing (length blocks) (map ratio_of heads)) line next
            → line ≡ at_line (pos 0) (pos 1)
        only_at line next n (inl b) =
            absurd (next2 (ap (λ a. get_or text a 0) (sym (h3.stay (no_heads heads b.2)))
            ∙ first_byte text c3.at 98 line n (ap (λ x. get_or x 0 0) b.1.1) (omega arith))) where
              no_heads : (heads : List Break) → map ratio_of heads ≡ [] → heads ≡ []
              no_heads [] e = refl
              no_heads (h ∷ heads) e = cc
        only_at line next n (inr (inl s)) =
            absurd (next3 (first_byte text c3.at 115 line n (ap (λ x. get_or x 0 0) s.2.written)
            (omega arith)))
        only_at line next n (inr (inr a)) = a.0

        pub bad_at : {A : Type 0} (r : Result A AnswerEnd) (end : AnswerEnd)
            → IsErrAnd r (λ e. e ≡ end) → EndsStuck text c3 (λ line. line ≡ codes "at 0/1") end
            → IfErr r (IsBadLineEnd form text)
        bad_at r end is s = bad_first r end is
            (stops_stuck (Leads form) text ended c0 c3 header
            (listing (length blocks) (map ratio_of heads)) lines3 (λ line. line ≡ codes "at 0/1")
            end r3 s (λ line next n l. only_at line next n l ∙ zero_line) (λ f. cc))

        module _ {c4 : Cursor} (t4 : Takes text c3 c4 (codes "at 0/1"))
            (within4 : c4.at ≤ length text) where
          r4 : Reads form text c0 c4 header (bases 1 form.widths (map ratio_of heads))
              (lines3 ++ at_line (pos 0) (pos 1) ∷ [])
          r4 = reads_more (Leads form) text c0 c3 c4 header
              (listing (length blocks) (map ratio_of heads))
              (bases 1 form.widths (map ratio_of heads)) lines3 (at_line (pos 0) (pos 1)) r3
              (subst (λ (x : List ℕ). Takes text c3 c4 x) (sym zero_line) t4) within4
              (inr (inr (refl, refl)))

          pub bad_rows : {A : Type 0} (r : Result A AnswerEnd) (end : AnswerEnd)
              → IsErrAnd r (λ e. e ≡ end)
              → ((due : List Ratio) → EndsAt form text c4 (bases 1 form.widths due) end)
              → IfErr r (IsBadLineEnd form text)
          bad_rows r end is h = bad_first r end is
              (stops_then (Leads form) text ended c0 c4 header
              (bases 1 form.widths (map ratio_of heads)) (lines3 ++ at_line (pos 0) (pos 1) ∷ [])
              end r4 (h (map ratio_of heads)))

          module _ {c5 : Cursor} {rows : List (List ℤ)} (h5 : ReadsRows form text c4 c5 rows) where
            abbrev lines5 : List (List ℕ)
            lines5 = lines3 ++ at_line (pos 0) (pos 1) ∷ [] ++ base_lines form.lines 1 rows

            r5 : Reads form text c0 c5 header (bases (length rows + 1) [] (map ratio_of heads))
                lines5
            r5 = reads_then (Leads form) text c0 c4 c5 header
                (bases 1 form.widths (map ratio_of heads))
                (bases (length rows + 1) [] (map ratio_of heads))
                (lines3 ++ at_line (pos 0) (pos 1) ∷ []) (base_lines form.lines 1 rows) r4
                (h5.reads (map ratio_of heads))

            pub bad_breaks : {A : Type 0} (r : Result A AnswerEnd) (end : AnswerEnd)
                → IsErrAnd r (λ e. e ≡ end)
                → ((i : ℕ) → EndsAt form text c5 (bases i [] (map ratio_of heads)) end)
                → IfErr r (IsBadLineEnd form text)
            bad_breaks r end is h = bad_first r end is
                (stops_then (Leads form) text ended c0 c5 header
                (bases (length rows + 1) [] (map ratio_of heads)) lines5 end r5
                (h (length rows + 1)))

            module _ {c6 : Cursor} {breaks : List Break}
                (h6 : ReadsBreaks form text c5 c6 heads [] breaks)
                (are : AreBreaksOf form heads breaks) where
              abbrev last : ℕ
              last = (h6.reads (length rows + 1)).0

              r6 : Reads form text c0 c6 header (bases last [] [])
                  (lines5 ++ break_lines form.lines breaks)
              r6 = reads_then (Leads form) text c0 c5 c6 header
                  (bases (length rows + 1) [] (map ratio_of heads)) (bases last [] []) lines5
                  (break_lines form.lines breaks) r5 (h6.reads (length rows + 1)).1

              pub bad_last : {A : Type 0} (r : Result A AnswerEnd) (end : AnswerEnd)
                  → IsErrAnd r (λ e. e ≡ end) → EndsStuck text c6 (λ line. line ≡ codes "end") end
                  → IfErr r (IsBadLineEnd form text)
              bad_last r end is s = bad_first r end is
                  (stops_stuck (Leads form) text ended c0 c6 header (bases last [] [])
                  (lines5 ++ break_lines form.lines breaks) (λ line. line ≡ codes "end") end r6 s
                  (λ line next n l. l.0) (λ f. cc))

              module _ {c7 : Cursor} (t7 : Takes text c6 c7 (codes "end"))
                  (within7 : c7.at ≤ length text) where
                r7 : Reads form text c0 c7 header ended
                    (lines5 ++ break_lines form.lines breaks ++ codes "end" ∷ [])
                r7 = reads_more (Leads form) text c0 c6 c7 header (bases last [] []) ended
                    (lines5 ++ break_lines form.lines breaks) (codes "end") r6 t7 within7
                    (refl, refl)

                pub bad_behind : c7.at < length text → IsBadLine form text c7.line
                bad_behind h = bad_line form clean named text c0 c7.line zero_at one_line (record {
                  lines = lines5 ++ break_lines form.lines breaks ++ codes "end" ∷ [];
                  to = c7;
                  next = ended;
                  reads = r7;
                  number_is = refl;
                  none = λ line after n l. l;
                  left = λ e. h;
                })

                pub whole_text : length text ≤ c7.at
                    → IsAnswerText form text
                    (record {
                      value = value;
                      least = low;
                      greatest = high;
                      blocks = blocks;
                      bases = rows;
                      breaks = breaks;
                    })
                whole_text h = record {
                  formed = record {
                    value = h1.small;
                    least = h1.places_low;
                    greatest = h1.places_high;
                    blocks = h2.formed;
                    bases = h5.formed;
                    breaks = are.formed;
                  };
                  written =
                      sym (ap (λ n. drop n text) zero_at) ∙ r7.cut
                      ∙ ap (λ x. text_of (lines5 ++ break_lines form.lines breaks ++ codes
                      "end" ∷ []) ++ x) (drop_all c7.at text h)
                      ∙ append-nil
                      (text_of (lines5 ++ break_lines form.lines breaks ++ codes "end" ∷ []))
                      ∙ ap text_of (gather (front value low high) (block_lines form.names 1 blocks)
                      (slope_lines form.names heads) (slope_lines form.names breaks)
                      (at_line (pos 0) (pos 1)) (base_lines form.lines 1 rows)
                      (break_lines form.lines breaks) (codes "end" ∷ []) (sym are.same));
                } where
                  gather : (f b s s' : List (List ℕ)) (a : List ℕ) (r k e : List (List ℕ)) → s ≡ s'
                      → f ++ b ++ s ++ a ∷ [] ++ r ++ k ++ e ≡ f ++ (b ++ s') ++ a ∷ r ++ k ++ e
                  gather f b s s' a r k e same = ap (λ x. f ++ b ++ x ++ a ∷ [] ++ r ++ k ++ e) same
                      ∙ simp append_assoc
