-- What follows for each form from what a frame tells: which reason of a line is its first, what a
-- good line leads to, and how the reading of a whole text comes out.
use Rattle.std.proofs.Common.{◌≡◌, inl, inr, ℕ, ◌<◌, ◌≤◌, List, [], ◌∷◌, ◌++◌, get_or, codes, refl, sym, ap, subst, ◌∙◌, append_assoc, arith}
use Rattle.std.specs.Prelude.{Result, Ok, Err, IfErr}
use Rattle.std.specs.Result.{IsErrAnd}
use Rattle.std.proofs.lemmas.List.{append-nil}
use Rattle.sfm_lines.specs.declared.reason.Reason.{Reason}
use Rattle.sfm_lines.specs.declared.reason.Reason.TheVariants.{Long, Bytes, Word, Shape, Number, Name, Twice, Law, Total, Short}
use Rattle.sfm_lines.specs.Lines.{content_of, tokens_of}
use Rattle.sfm_lines.specs.Reading.{reason_order}
use Rattle.sfm_text.specs.declared.end.TextEnd.{TextEnd}
use Rattle.sfm_text.specs.declared.end.TextEnd.TheVariants.{Refused, Memory}
use Rattle.sfm_text.specs.Language.{Language, IsFirstOf, IsReadAs, IsFaultIn, IsRefusalIn, is_long, is_faulty, is_short}
use Rattle.sfm_text.proofs.Orders.{first_listed}
use Rattle.sfm_text.proofs.Readings.{lines-push}
use Rattle.sfm_side.specs.Side.{SideState, SideForm, header, lines, ended, HasSide, side_language}
use Rattle.sfm_side.specs.Frame.{IsLineWith, IsInner, IsHeaderReason, IsLaterReason, IsPastReason, IsOpened, IsOpenRefusal, is_too_long, is_empty, is_header, IsLeftRefusal, IsLeftFault, is_none, is_next, is_past, IsAtEnd, IsFramed, IsReadTo, left_of}
use Rattle.sfm_side.specs.declared.frame.Frame.{Frame}

-- what is told of an error is told of a result with that error
on-err : {A : Type 0} (P : TextEnd → Type 0) (result : Result A TextEnd) (end : TextEnd)
    → IsErrAnd result (λ e. e ≡ end) → P end → IfErr result P
on-err P (Ok a) end is p = tt
on-err P (Err e) end is p = subst P (sym is) p

-- none of the reasons before the k-th, of the first four
below : (Has : Reason → Type 0) (k : ℕ) → k ≤ 3 → (Has Long → ⊥) → (1 < k → Has Bytes → ⊥)
    → (2 < k → Has Word → ⊥) → (reason : Reason) → reason_order reason < k → Has reason → ⊥
below Has k few long bytes word Long lt h = long h
below Has k few long bytes word Bytes lt h = bytes lt h
below Has k few long bytes word Word lt h = word lt h
below Has k few long bytes word _ lt h = absurd (omega (arith, few, lt))

module _ {D : Type 0} (form : SideForm D) where
  -- the language of the form
  abbrev pub L : Language (SideState D)
  L = side_language form

  -- ---- the header

  header-first : (line : List ℕ) (reason : Reason) → IsHeaderReason form.word line reason
      → IsFirstOf (HasSide form header line) reason
  header-first line Bytes bad = first_listed (HasSide form header line) Bytes bad
      (below (HasSide form header line) 1 (omega arith) (λ h. h) (λ lt. absurd (omega (arith, lt)))
      (λ lt. absurd (omega (arith, lt))))
  header-first line Word (good, other) =
      first_listed (HasSide form header line) Word other
      (below (HasSide form header line) 2 (omega arith) (λ h. h) (λ lt h. good h)
      (λ lt. absurd (omega (arith, lt))))
  header-first line Shape (rest, is, other) = first_listed (HasSide form header line) Shape
      (λ e. let both : form.word ∷ rest ≡ form.word ∷ codes "1" ∷ [] = sym is.tokens_are
      ∙ e in let same : rest ≡ codes "1" ∷ [] = cc in other same)
      (below (HasSide form header line) 3 (omega arith) (λ h. h) (λ lt h. is.good h)
      (λ lt h. h rest is.tokens_are))
  header-first line _ h = absurd h

  header-good : (line : List ℕ) → IsLineWith line (form.word ∷ codes "1" ∷ []) → (reason : Reason)
      → HasSide form header line reason → ⊥
  header-good line is Bytes h = is.good h
  header-good line is Word h = h (codes "1" ∷ []) is.tokens_are
  header-good line is Shape h = h is.tokens_are
  header-good line is _ h = h

  header-takes : (line : List ℕ) → IsLineWith line (form.word ∷ codes "1" ∷ [])
      → L.Takes header line (lines form.nothing)
  header-takes line is = (header-good line is, refl)

  -- ---- a line that every form refuses

  later-first : (d : D) (line : List ℕ) (reason : Reason) → IsLaterReason line reason
      → IsFirstOf (HasSide form (lines d) line) reason
  later-first d line Bytes bad =
      first_listed (HasSide form (lines d) line) Bytes bad
      (below (HasSide form (lines d) line) 1 (omega arith) (λ h. h)
      (λ lt. absurd (omega (arith, lt))) (λ lt. absurd (omega (arith, lt))))
  later-first d line Shape (rest, is, more) = first_listed (HasSide form (lines d) line) Shape (
    λ e. let both : codes "end" ∷ rest ≡ codes "end" ∷ [] = sym is.tokens_are
        ∙ e in let none : rest ≡ [] = cc in more none,
    inl (rest, is.tokens_are),
  )
      (below (HasSide form (lines d) line) 3 (omega arith) (λ h. h) (λ lt h. is.good h)
      (λ lt h. h.0 rest is.tokens_are))
  later-first d line _ h = absurd h

  past-first : (d : D) (line : List ℕ) (reason : Reason) → IsPastReason line reason
      → IsFirstOf (HasSide form (ended d) line) reason
  past-first d line Bytes bad = first_listed (HasSide form (ended d) line) Bytes bad
      (below (HasSide form (ended d) line) 1 (omega arith) (λ h. h)
      (λ lt. absurd (omega (arith, lt))) (λ lt. absurd (omega (arith, lt))))
  past-first d line Word good = first_listed (HasSide form (ended d) line) Word tt
      (below (HasSide form (ended d) line) 2 (omega arith) (λ h. h) (λ lt h. good h)
      (λ lt. absurd (omega (arith, lt))))
  past-first d line _ h = absurd h

  module _ (framed : IsFramed form) where
    -- ---- the end

    end-good : (d : D) (line : List ℕ) → IsLineWith line (codes "end" ∷ []) → (reason : Reason)
        → HasSide form (lines d) line reason → ⊥
    end-good d line is Long h = h
    end-good d line is Short h = h
    end-good d line is Bytes h = is.good h
    end-good d line is Word h = h.0 [] is.tokens_are
    end-good d line is Shape h = h.0 is.tokens_are
    end-good d line is Number h = omega (arith, framed.ends d Number (rw is.tokens_are at h))
    end-good d line is Name h = omega (arith, framed.ends d Name (rw is.tokens_are at h))
    end-good d line is Twice h = omega (arith, framed.ends d Twice (rw is.tokens_are at h))
    end-good d line is Law h = omega (arith, framed.ends d Law (rw is.tokens_are at h))
    end-good d line is Total h = omega (arith, framed.ends d Total (rw is.tokens_are at h))

    end-takes : (d : D) (line : List ℕ) → IsLineWith line (codes "end" ∷ [])
        → L.Takes (lines d) line (ended d)
    end-takes d line is = (end-good d line is, inl (is.tokens_are, refl))

    -- ---- a line of the form: its reasons are those that the form finds

    module _ (d : D) (line : List ℕ) (inner : IsInner line) where
      has-inner : (reason : Reason) → form.HasIn d (tokens_of line) reason
          → HasSide form (lines d) line reason
      has-inner Long h = absurd ((framed.plain d (tokens_of line) Long h).0 refl)
      has-inner Bytes h = absurd ((framed.plain d (tokens_of line) Bytes h).1 refl)
      has-inner Short h = absurd ((framed.plain d (tokens_of line) Short h).2 refl)
      has-inner Word h = (inner.word, h)
      has-inner Shape h = (inner.word [], inr h)
      has-inner _ h = h

      inner-has : (reason : Reason) → HasSide form (lines d) line reason
          → form.HasIn d (tokens_of line) reason
      inner-has Long h = absurd h
      inner-has Short h = absurd h
      inner-has Bytes h = absurd (inner.good h)
      inner-has Word h = h.1
      inner-has Shape (other, inl (rest, e)) = absurd (inner.word rest e)
      inner-has Shape (other, inr h) = h
      inner-has _ h = h

      -- F1: a line's own first reason is its first
      inner-first : (reason : Reason) → IsFirstOf (form.HasIn d (tokens_of line)) reason
          → IsFirstOf (HasSide form (lines d) line) reason
      inner-first reason h = record {
        holds = has-inner reason h.holds;
        first = λ before behind e k x lt has. h.first before behind e k x lt
            (inner-has (get_or before k x) has);
      }

      -- F2: a line with none is taken
      inner-takes : (said : D) → ((reason : Reason) → form.HasIn d (tokens_of line) reason → ⊥)
          → form.Says d (tokens_of line) said → L.Takes (lines d) line (lines said)
      inner-takes said none says = (
        λ reason h. none reason (inner-has reason h),
        inr (said, says, refl),
      )

  -- ---- whole texts

  module _ (text : List ℕ) where
    pub opened : (frame : Frame) → IsOpened form.word text frame
        → IsReadTo form text (left_of frame) form.nothing
    opened frame h = record {
      short = h.short;
      done = h.first ∷ [];
      content = h.content;
      good = (lines form.nothing, header-takes h.first.1 h.head, refl);
    }

    open-faulty : (end : TextEnd) → IsOpenRefusal form.word text end → IsRefusalIn L text end
    open-faulty Memory h = absurd h
    open-faulty (Refused number reason) (is_too_long at why long) = is_long at why long
    open-faulty (Refused number reason) (is_empty short none at why) =
        is_short at why short (header, rw none refl, λ (d, e). absurd (cc))
    open-faulty (Refused number reason) (is_header short line after content why) =
        is_faulty short (record {
          before = [];
          line = line;
          after = after;
          state = header;
          content = content;
          good = refl;
          fault = header-first line reason why;
        })

    pub open-refused : {A : Type 0} (result : Result A TextEnd) (end : TextEnd)
        → IsErrAnd result (λ e. e ≡ end) → IsOpenRefusal form.word text end
        → IfErr result (IsRefusalIn L text)
    open-refused result end is h = on-err (IsRefusalIn L text) result end is (open-faulty end h)

    module _ (framed : IsFramed form) (left : List (ℕ × List ℕ)) (d : D)
        (read : IsReadTo form text left d) where
      -- the next line has this fault
      next-faulty : (number : ℕ) (line : List ℕ) (after : List (ℕ × List ℕ)) (reason : Reason)
          → left ≡ (number, line) ∷ after → IsFirstOf (HasSide form (lines d) line) reason
          → IsFaultIn L text number reason
      next-faulty number line after reason next first = is_faulty read.short (record {
        before = read.done;
        line = line;
        after = after;
        state = lines d;
        content = read.content ∙ ap (λ (l : List (ℕ × List ℕ)). read.done ++ l) next;
        good = read.good;
        fault = first;
      })

      left-faulty : (number : ℕ) (reason : Reason) → IsLeftFault text left number reason
          → IsFaultIn L text number reason
      left-faulty number reason (is_none none at why) =
          let all : content_of text ≡ read.done = read.content
          ∙ (ap (λ (l : List (ℕ × List ℕ)). read.done ++ l) none ∙ append-nil read.done) in
          is_short at why read.short (lines d, rw all read.good, λ (e, same). absurd (cc))
      left-faulty number reason (is_next line after next why) =
          next-faulty number line after reason next (later-first d line reason why)
      left-faulty number reason (is_past last line after next is why) =
          is_faulty read.short (record {
            before = read.done ++ last ∷ [];
            line = line;
            after = after;
            state = ended d;
            content = read.content ∙ (ap (λ (l : List (ℕ × List ℕ)). read.done ++ l) next
                ∙ sym (append_assoc read.done (last ∷ []) ((number, line) ∷ after)));
            good = lines-push L.Takes header read.done (lines d) last (ended d) read.good
                (end-takes framed d last.1 is);
            fault = past-first d line reason why;
          })

      left-end : (whole : List ℕ) (end : TextEnd) → whole ≡ text
          → IsLeftRefusal whole left end → IsRefusalIn L text end
      left-end whole Memory same h = absurd h
      left-end whole (Refused number reason) same h = left-faulty number reason (rw same at h)

      -- what the frame refuses is refused
      pub left-refused : {A : Type 0} (result : Result A TextEnd) (end : TextEnd)
          → IsErrAnd result (λ e. e ≡ end) → (whole : List ℕ) → whole ≡ text
          → IsLeftRefusal whole left end → IfErr result (IsRefusalIn L text)
      left-refused result end is whole same h =
          on-err (IsRefusalIn L text) result end is (left-end whole end same h)

      -- what the form refuses is refused
      pub line-refused : (number : ℕ) (line : List ℕ) (after : List (ℕ × List ℕ)) (reason : Reason)
          → left ≡ (number, line) ∷ after → IsInner line
          → IsFirstOf (form.HasIn d (tokens_of line)) reason → IsFaultIn L text number reason
      line-refused number line after reason next inner first =
          next-faulty number line after reason next (inner-first framed d line inner reason first)

      -- what the form takes is read
      pub line-read : (number : ℕ) (line : List ℕ) (after : List (ℕ × List ℕ)) (said : D)
          → left ≡ (number, line) ∷ after → IsInner line
          → ((reason : Reason) → form.HasIn d (tokens_of line) reason → ⊥)
          → form.Says d (tokens_of line) said → IsReadTo form text after said
      line-read number line after said next inner none says = record {
        short = read.short;
        done = read.done ++ (number, line) ∷ [];
        content = read.content ∙ (ap (λ (l : List (ℕ × List ℕ)). read.done ++ l) next
            ∙ sym (append_assoc read.done ((number, line) ∷ []) after));
        good = lines-push L.Takes header read.done (lines d) (number, line) (lines said) read.good
            (inner-takes framed d line inner said none says);
      }

      -- F3: the end
      pub end-read : IsAtEnd left → IsReadAs L text (ended d)
      end-read (last, only, is) =
          let all : content_of text ≡ read.done ++ last ∷ [] = read.content
          ∙ ap (λ (l : List (ℕ × List ℕ)). read.done ++ l) only in
          record {
            short = read.short;
            lines = rw all (lines-push L.Takes header read.done (lines d) last (ended d) read.good
                (end-takes framed d last.1 is));
          }
