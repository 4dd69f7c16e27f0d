-- Where the reading stops: what an end says of the place at which it was found.
use Rattle.std.proofs.Common.{◌≡◌, ◌++◌, ◌∷◌, List, ℕ, Result, Ok, Err, subst, sym, refl, ap, ◌∙◌, inr, [], ◌+◌, ◌<◌, ◌≤◌, length, drop, get_or, append_assoc, arith, Bool, true, not}
use Rattle.std.specs.Prelude.{IfErr, IsErrAnd}
use Rattle.sfm_cert.specs.declared.solved.AnswerEnd.{AnswerEnd}
use Rattle.sfm_cert.specs.declared.solved.AnswerEnd.TheVariants.{BadLine, Memory}
use Rattle.sfm_readback.specs.declared.cursor.Cursor.{Cursor}
use Rattle.std.proofs.lemmas.Slice.Eq.{bytes_eq-Decides}
use lib.Pointwise.{pointwise}
use lib.Dec.{eqb}
use mathlib.Core.Bool.{true≢false}
use Rattle.sfm_readback.proofs.Tokens.{same_front}
use Rattle.std.proofs.lemmas.List.{length_push, drop_at, drop-drop, get_or-drop, length-append}
use Rattle.std.proofs.lemmas.List.Elements.{All-nil, All-push, All-append}
use Rattle.sfm_cert.specs.Answer.{text_of}
use Rattle.sfm_cert.specs.Grammar.{IsLine}
use Rattle.sfm_cert.proofs.AnswerLines.{text_of-append}
use Rattle.sfm_readback.proofs.Rules.{leads-append}
use Rattle.sfm_readback.specs.Reading.{IsNextLine, Takes, IsStuck, EndsStuck, ReadsBy, EndsAtBy}

-- an end that is passed on
pub passed_on : {A E : Type 0} (r : Result A E) (end : E) (Q : E → Type 0)
    → IsErrAnd r (λ e. e ≡ end) → Q end → IfErr r Q
passed_on (Ok x) end Q h q = absurd h
passed_on (Err e) end Q h q = subst Q (sym h) q

-- want of memory says nothing of where the reading stands
pub wanting : {A : Type 0} (r : Result A AnswerEnd) (text : List ℕ) (from : Cursor)
    (IsGood : List ℕ → Type 0) → IsErrAnd r (λ e. e ≡ Memory) → IfErr r (EndsStuck text from IsGood)
wanting r text from IsGood is = passed_on r Memory (EndsStuck text from IsGood) is tt

-- no line is next
pub stuck_without : (text : List ℕ) (from : Cursor) (IsGood : List ℕ → Type 0)
    → ((line : List ℕ) → IsNextLine text from.at line → ⊥) → IsStuck text from IsGood from.line
stuck_without text from IsGood none = record { number_is = refl; none = λ line n g. none line n }

-- the next line is one line
pub one_line : (text : List ℕ) (at : ℕ) (x y : List ℕ) → IsNextLine text at x → IsNextLine text at y
    → x ≡ y
one_line text at x y h k = (same_front 10 x y (10 ∷ h.rest) (10 ∷ k.rest) h.is_line k.is_line
    (inr (h.rest, refl)) (inr (k.rest, refl)) (sym h.cut ∙ k.cut)).0

-- another line is next
pub stuck_at : (text : List ℕ) (from to : Cursor) (IsGood : List ℕ → Type 0) (line : List ℕ)
    → Takes text from to line → (IsGood line → ⊥) → IsStuck text from IsGood from.line
stuck_at text from to IsGood line t bad =
    record {
      number_is = refl;
      none = λ other n g.
          bad (subst IsGood (one_line text from.at other line n t.next) g);
    }

pub differs : (b : Bool) (x y : List ℕ) → b ≡ not (pointwise eqb x y) → b ≡ true → x ≡ y → ⊥
differs b x y h t e = let d = (bytes_eq-Decides x y).1 e in true≢false (sym t ∙ h ∙ ap not d)

-- ---- lines one behind another

module _ {S : Type 0} (rule : S → List ℕ → S → Type 0) (text : List ℕ) where
  pub reads_begin : (from : Cursor) (due : S) → from.at ≤ length text
      → ReadsBy rule text from from due due []
  reads_begin from due h = record {
    are_lines = All-nil IsLine;
    within = h;
    cut = refl;
    number = omega arith;
    leads = refl;
  }

  pub reads_more : (from to to' : Cursor) (due next after : S) (lines : List (List ℕ))
      (line : List ℕ) → ReadsBy rule text from to due next lines → Takes text to to' line
      → to'.at ≤ length text
      → rule next line after → ReadsBy rule text from to' due after (lines ++ line ∷ [])
  reads_more from to to' due next after lines line r t h l = record {
    are_lines = All-push IsLine lines line r.are_lines t.next.is_line;
    within = h;
    cut = r.cut ∙ ap (λ x. text_of lines ++ x)
        (t.next.cut ∙ ap (λ x. line ++ (10 ∷ x))
        (behind to.at to'.at line t.next.rest t.next.cut t.at)
        ∙ sym (append_assoc line (10 ∷ []) (drop to'.at text)))
        ∙ sym (append_assoc (text_of lines) (line ++ 10 ∷ []) (drop to'.at text))
        ∙ ap (λ x. x ++ drop to'.at text) (sym (text_of-append lines (line ∷ [])));
    number = omega (arith, r.number, t.number, length_push lines line);
    leads = leads-append rule due lines next (line ∷ []) after r.leads (after, l, refl);
  } where
    behind : (at to : ℕ) (line rest : List ℕ) → drop at text ≡ line ++ (10 ∷ rest)
        → to ≡ at + length line + 1 → rest ≡ drop to text
    behind at to line rest e f =
        sym (drop_at (line ++ 10 ∷ []) rest (length line + 1) (length_push line 10))
        ∙ ap (λ x. drop (length line + 1) x) (append_assoc line (10 ∷ []) rest ∙ sym e)
        ∙ drop-drop (length line + 1) at text ∙ ap (λ n. drop n text) (omega (arith, f))

  pub reads_then : (a b c : Cursor) (s t u : S) (xs ys : List (List ℕ))
      → ReadsBy rule text a b s t xs → ReadsBy rule text b c t u ys
      → ReadsBy rule text a c s u (xs ++ ys)
  reads_then a b c s t u xs ys h k = record {
    are_lines = All-append IsLine xs ys h.are_lines k.are_lines;
    within = k.within;
    cut = h.cut ∙ ap (λ x. text_of xs ++ x) k.cut
        ∙ sym (append_assoc (text_of xs) (text_of ys) (drop c.at text))
        ∙ ap (λ x. x ++ drop c.at text) (sym (text_of-append xs ys));
    number = omega (arith, h.number, k.number, length-append xs ys);
    leads = leads-append rule s xs t ys u h.leads k.leads;
  }

  -- the reading stops where it is stuck
  pub stops_stuck : (ended : S) (from to : Cursor) (due next : S) (lines : List (List ℕ))
      (IsGood : List ℕ → Type 0) (end : AnswerEnd) → ReadsBy rule text from to due next lines
      → EndsStuck text to IsGood end
      → ((line : List ℕ) (after : S) → IsNextLine text to.at line → rule next line after
      → IsGood line) → (next ≡ ended → ⊥) → EndsAtBy rule ended text from due end
  stops_stuck ended from to due next lines IsGood (BadLine number) r s f going = record {
    lines = lines;
    to = to;
    next = next;
    reads = r;
    number_is = s.number_is;
    none = λ line after n l. s.none line n (f line after n l);
    left = λ e. absurd (going e);
  }
  stops_stuck ended from to due next lines IsGood Memory r s f going = tt

  pub stops_then : (ended : S) (a b : Cursor) (s t : S) (xs : List (List ℕ)) (end : AnswerEnd)
      → ReadsBy rule text a b s t xs → EndsAtBy rule ended text b t end
      → EndsAtBy rule ended text a s end
  stops_then ended a b s t xs (BadLine number) r h = record {
    lines = xs ++ h.lines;
    to = h.to;
    next = h.next;
    reads = reads_then a b h.to s t h.next xs h.lines r h.reads;
    number_is = h.number_is;
    none = h.none;
    left = h.left;
  }
  stops_then ended a b s t xs Memory r h = tt

-- the first byte of a line is that of the text at its place
pub first_byte : (text : List ℕ) (at k : ℕ) (line : List ℕ) → IsNextLine text at line
    → get_or line 0 0 ≡ k → 0 < k → get_or text at 0 ≡ k
first_byte text at k [] n e h = absurd (omega (arith, e, h))
first_byte text at k (c ∷ line) n e h = sym (ap (λ i. get_or text i 0) (omega arith))
    ∙ sym (get_or-drop at text 0 0) ∙ ap (λ x. get_or x 0 0) n.cut ∙ e
