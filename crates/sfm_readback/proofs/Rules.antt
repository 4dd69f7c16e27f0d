-- Texts that are read by a rule: where the reading stops, there is the first bad line.
use Rattle.std.proofs.Common.{◌≡◌, ℕ, List, [], ◌∷◌, ◌++◌, length, drop, sym, ap, subst, ◌∙◌, arith, append_assoc}
use Rattle.std.specs.List.{All}
use Rattle.std.proofs.lemmas.List.{length-drop}
use Rattle.std.proofs.lemmas.List.Elements.{All-nil, All-cons}
use Rattle.sfm_cert.specs.Answer.{text_of}
use Rattle.sfm_cert.specs.Grammar.{IsLine, BeginsOne, IsBadLineOf}
use Rattle.sfm_readback.specs.Reading.{LeadsOnBy, StopsBy}
use Rattle.sfm_readback.specs.declared.cursor.Cursor.{Cursor}
use Rattle.sfm_readback.proofs.CleanLines.{text_lines, same_lines}

-- ---- lines one behind another

module _ {S : Type 0} (rule : S → List ℕ → S → Type 0) where
  pub leads-append : (s : S) (xs : List (List ℕ)) (t : S) (ys : List (List ℕ)) (u : S)
      → LeadsOnBy rule s xs t → LeadsOnBy rule t ys u → LeadsOnBy rule s (xs ++ ys) u
  leads-append s [] t ys u h k = subst (λ (v : S). LeadsOnBy rule v ys u) (sym h) k
  leads-append s (x ∷ xs) t ys u h k = (h.0, h.1, leads-append h.0 xs t ys u h.2 k)

  -- a line leads on in one way
  abbrev pub LeadsOneWay : Type 0
  LeadsOneWay = (s : S) (line : List ℕ) (t u : S) → rule s line t → rule s line u → t ≡ u

  pub leads_rest : LeadsOneWay → (s : S) (xs : List (List ℕ)) (t : S) (ys : List (List ℕ)) (u : S)
      → LeadsOnBy rule s xs t → LeadsOnBy rule s (xs ++ ys) u → LeadsOnBy rule t ys u
  leads_rest one s [] t ys u h k = subst (λ (v : S). LeadsOnBy rule v ys u) h k
  leads_rest one s (x ∷ xs) t ys u h k =
      leads_rest one h.0 xs t ys u h.2
      (subst (λ (v : S). LeadsOnBy rule v (xs ++ ys) u) (one s x k.0 h.0 k.1 h.1) k.2)

  -- no line that leads anywhere holds a line feed
  abbrev pub LeadsClean : Type 0
  LeadsClean = (s : S) (line : List ℕ) (t : S) → rule s line t → IsLine line

  all_lines : LeadsClean → (s : S) (lines : List (List ℕ)) (t : S) → LeadsOnBy rule s lines t
      → All IsLine lines
  all_lines clean s [] t h = All-nil IsLine
  all_lines clean s (line ∷ lines) t h =
      All-cons IsLine line lines (clean s line h.0 h.1) (all_lines clean h.0 lines t h.2)

-- ---- whole texts

module _ {S A : Type 0} (rule : S → List ℕ → S → Type 0) (start ended : S) (formed : A → Type 0)
    (lines_by : A → List (List ℕ))
    (one : LeadsOneWay rule) (clean : LeadsClean rule)
    (whole : (a : A) → formed a → LeadsOnBy rule start (lines_by a) ended)
    (begins : (lines : List (List ℕ)) (s : S) → LeadsOnBy rule start lines s
    → BeginsOne formed lines_by lines) where
  pub first_bad : (text : List ℕ) (from : Cursor) (number : ℕ) → from.at ≡ 0 → from.line ≡ 1
      → StopsBy rule ended text from start number → IsBadLineOf formed lines_by text number
  first_bad text from number zero_at one_line h = record {
    before = h.lines;
    behind = drop h.to.at text;
    are_lines = h.reads.are_lines;
    cut = cut;
    counted = omega (arith, h.number_is, h.reads.number, one_line);
    good = begins h.lines h.next h.reads.leads;
    bad = λ line rest is e b.
        let goes = leads_rest rule one start h.lines h.next (line ∷ b.1) ended h.reads.leads
        (subst (λ (x : List (List ℕ)). LeadsOnBy rule start x ended)
        (b.3 ∙ append_assoc h.lines (line ∷ []) b.1) (whole b.0 b.2)) in
        h.none line goes.0 (record { is_line = is; rest = rest; cut = e }) goes.1;
    unfinished = λ a good written.
        let all = whole a good in
        let t = text_lines h.lines (lines_by a) (drop h.to.at text) h.reads.are_lines
        (all_lines rule clean start (lines_by a) ended all) (sym written ∙ cut) in
        at_end t.0 (leads_rest rule one start h.lines h.next t.0 ended h.reads.leads
        (subst (λ (x : List (List ℕ)). LeadsOnBy rule start x ended) t.1 all)) t.2;
  } where
    cut : text ≡ text_of h.lines ++ drop h.to.at text
    cut = sym (ap (λ n. drop n text) zero_at) ∙ h.reads.cut

    at_end : (more : List (List ℕ)) → LeadsOnBy rule h.next more ended
        → drop h.to.at text ≡ text_of more → ⊥
    at_end [] e f = omega (arith, h.left e, length-drop h.to.at text, ap length f)
    at_end (line ∷ more) goes f =
        h.none line goes.0 (record {
          is_line = clean h.next line goes.0 goes.1;
          rest = text_of more;
          cut = f;
        }) goes.1

  -- what two texts of good form say has the same lines where the texts are the same
  pub one_list : (a b : A) → formed a → formed b → text_of (lines_by a) ≡ text_of (lines_by b)
      → lines_by a ≡ lines_by b
  one_list a b ha hb e =
      same_lines (lines_by a) (lines_by b)
      (all_lines rule clean start (lines_by a) ended (whole a ha))
      (all_lines rule clean start (lines_by b) ended (whole b hb)) e
