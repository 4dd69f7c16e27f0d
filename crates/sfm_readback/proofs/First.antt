-- The first four lines of an answer text.
use Rattle.std.proofs.Common.{◌≡◌, ℕ, ◌≤◌, Bool, List, [], ◌∷◌, Result, length, ℤ, refl, subst}
use Rattle.std.specs.Prelude.{IfErr, IsErrAnd, codes}
use Rattle.sfm_cert.specs.Answer.{Form}
use Rattle.sfm_cert.specs.declared.solved.AnswerEnd.{AnswerEnd}
use Rattle.sfm_readback.specs.Lines.{IsMinimumLine, IsSetLine}
use Rattle.sfm_readback.specs.Parts.{ReadsFirst}
use Rattle.sfm_readback.specs.Reading.{header, minimum, least, greatest, listing, Reads, EndsAt, EndsStuck, Takes, TakesSome, ended, Leads}
use Rattle.sfm_readback.specs.declared.cursor.Cursor.{Cursor}
use Rattle.sfm_readback.proofs.Ends.{passed_on, reads_begin, reads_more, stops_stuck}

module _ (form : Form) (text : List ℕ) (c0 : Cursor) (within : c0.at ≤ length text) where
  -- an end of the reading of a line is passed on
  stopped : {A : Type 0} (r : Result A AnswerEnd) (end : AnswerEnd) → IsErrAnd r (λ e. e ≡ end)
      → EndsAt form text c0 header end → IfErr r (EndsAt form text c0 header)
  stopped r end is h = passed_on r end (EndsAt form text c0 header) is h

  pub stop_header : {A : Type 0} (r : Result A AnswerEnd) (end : AnswerEnd)
      → IsErrAnd r (λ e. e ≡ end) → EndsStuck text c0 (λ line. line ≡ form.header) end
      → IfErr r (EndsAt form text c0 header)
  stop_header r end is s = stopped r end is
      (stops_stuck (Leads form) text ended c0 c0 header header [] (λ line. line ≡ form.header) end
      (reads_begin (Leads form) text c0 header within) s (λ line next n l. l.0) (λ f. cc))

  module _ {c1 : Cursor} (t1 : Takes text c0 c1 form.header) (within1 : c1.at ≤ length text) where
    r1 : Reads form text c0 c1 header minimum (form.header ∷ [])
    r1 = reads_more (Leads form) text c0 c0 c1 header header minimum [] form.header
        (reads_begin (Leads form) text c0 header within) t1 within1 (refl, refl)

    pub stop_minimum : {A : Type 0} (r : Result A AnswerEnd) (end : AnswerEnd)
        → IsErrAnd r (λ e. e ≡ end) → EndsStuck text c1 (λ line. (v : ℤ) × IsMinimumLine line v) end
        → IfErr r (EndsAt form text c0 header)
    stop_minimum r end is s = stopped r end is
        (stops_stuck (Leads form) text ended c0 c1 header minimum (form.header ∷ [])
        (λ line. (v : ℤ) × IsMinimumLine line v) end r1 s (λ line next n l. (l.0, l.1)) (λ f. cc))

    module _ {c2 : Cursor} (v : ℤ) (t2 : TakesSome text c1 c2 (λ line. IsMinimumLine line v)) where
      r2 : Reads form text c0 c2 header least (form.header ∷ t2.line ∷ [])
      r2 = reads_more (Leads form) text c0 c1 c2 header minimum least (form.header ∷ []) t2.line r1
          t2.takes t2.within (v, t2.good, refl)

      pub stop_least : {A : Type 0} (r : Result A AnswerEnd) (end : AnswerEnd)
          → IsErrAnd r (λ e. e ≡ end)
          → EndsStuck text c2 (λ line. (s : List Bool)
          × IsSetLine (codes "least") form.names line s) end → IfErr r (EndsAt form text c0 header)
      stop_least r end is s = stopped r end is
          (stops_stuck (Leads form) text ended c0 c2 header least (form.header ∷ t2.line ∷ [])
          (λ line. (s : List Bool) × IsSetLine (codes "least") form.names line s) end r2 s
          (λ line next n l. (l.0, l.1)) (λ f. cc))

      module _ {c3 : Cursor} (low : List Bool)
          (t3 : TakesSome text c2 c3 (λ line. IsSetLine (codes "least") form.names line low)) where
        r3 : Reads form text c0 c3 header greatest (form.header ∷ t2.line ∷ t3.line ∷ [])
        r3 = reads_more (Leads form) text c0 c2 c3 header least greatest
            (form.header ∷ t2.line ∷ []) t3.line r2 t3.takes t3.within (low, t3.good, refl)

        pub stop_greatest : {A : Type 0} (r : Result A AnswerEnd) (end : AnswerEnd)
            → IsErrAnd r (λ e. e ≡ end)
            → EndsStuck text c3 (λ line. (s : List Bool)
            × IsSetLine (codes "greatest") form.names line s) end
            → IfErr r (EndsAt form text c0 header)
        stop_greatest r end is s = stopped r end is
            (stops_stuck (Leads form) text ended c0 c3 header greatest
            (form.header ∷ t2.line ∷ t3.line ∷ [])
            (λ line. (s : List Bool) × IsSetLine (codes "greatest") form.names line s) end r3 s
            (λ line next n l. (l.0, l.1)) (λ f. cc))

        pub reads_first : {c4 : Cursor} (high : List Bool)
            → TakesSome text c3 c4 (λ line. IsSetLine (codes "greatest") form.names line high)
            → ReadsFirst form text c0 c4 v low high
        reads_first {c4 = c4} high t4 = record {
          reads = subst (λ (l : List (List ℕ)). Reads form text c0 c4 header (listing 0 []) l)
              (same_lines t2.good.1 t3.good.1 t4.good.1)
              (reads_more (Leads form) text c0 c3 c4 header greatest (listing 0 [])
              (form.header ∷ t2.line ∷ t3.line ∷ []) t4.line r3 t4.takes t4.within
              (high, t4.good, refl));
          small = t2.good.0;
          places_low = t3.good.0;
          places_high = t4.good.0;
        } where
          same_lines : {a b b' c c' d d' : List ℕ} → b ≡ b' → c ≡ c' → d ≡ d'
              → a ∷ b ∷ c ∷ d ∷ [] ≡ a ∷ b' ∷ c' ∷ d' ∷ []
          same_lines f g h = cc
