-- Where the reading of a whole answer text stops, there is the first bad line.
use Rattle.std.proofs.Common.{◌≡◌, ℕ, ◌+◌, List, [], ◌∷◌, ◌++◌, pos, inl, inr, refl}
use Rattle.std.specs.Prelude.{codes}
use Rattle.std.specs.List.{All}
use Rattle.std.specs.Fmt.{decimal, signed_decimal}
use Rattle.sfm_spec.specs.Names.{IsName}
use Rattle.sfm_cert.specs.Answer.{Answer, Form, listed, slope_text, text_of, answer_lines}
use Rattle.sfm_cert.specs.LineLists.{counted, IsBadLine}
use Rattle.sfm_cert.specs.Form.{IsFormed}
use Rattle.sfm_cert.specs.Grammar.{IsLine}
use Rattle.sfm_cert.specs.Header.{header_text}
use Rattle.sfm_cert.specs.Labels.{label_in}
use Rattle.sfm_cert.specs.declared.header.Header.{Header}
use Rattle.sfm_cert.specs.declared.header.Header.TheVariants.{Answer as AnswerHeader, Weighed}
use Rattle.sfm_readback.specs.Reading.{State, header, minimum, least, greatest, listing, bases, ended, Leads, Stops}
use Rattle.sfm_readback.specs.declared.cursor.Cursor.{Cursor}
use Rattle.sfm_readback.proofs.CleanLines.{word_line, decimal_line, number_line, joined, listed_line, counted_line, row_line_line, slope_text_line, at_line_line, same_line}
use Rattle.sfm_readback.proofs.Labels.{label_line}
use Rattle.sfm_readback.proofs.Rules.{first_bad, one_list as lines_of_one}
use Rattle.sfm_readback.proofs.Machine.{one_next, leads_answer}
use Rattle.sfm_readback.proofs.Beginnings.{begins_from}

-- ---- no line of an answer holds a line feed

pub header_line : (header : Header) → IsLine (header_text header)
header_line AnswerHeader = word_line (codes "answer 1") refl
header_line Weighed = word_line (codes "weighed 1") refl

module _ (form : Form) (clean : IsLine form.header) (named : All IsName form.names) where
  leads_line : (s : State) (line : List ℕ) (t : State) → Leads form s line t → IsLine line
  leads_line header line t h = same_line line form.header h.0 clean
  leads_line minimum line t h = same_line line _ h.1.1
      (joined (codes "minimum ") (signed_decimal h.0) (word_line (codes "minimum ") refl)
      (number_line h.0))
  leads_line least line t h = same_line line _ h.1.1
      (joined (codes "least") (listed form.names h.0) (word_line (codes "least") refl)
      (listed_line form.names h.0 named))
  leads_line greatest line t h =
      same_line line _ h.1.1 (joined (codes "greatest") (listed form.names h.0)
      (word_line (codes "greatest") refl) (listed_line form.names h.0 named))
  leads_line (listing k slopes) line t (inl (b, is, none, goes)) =
      same_line line _ is.1
      (joined (codes "block " ++ decimal (k + 1) ++ listed form.names b.members ++ codes " :")
      (counted b.needs)
      (joined (codes "block " ++ decimal (k + 1) ++ listed form.names b.members) (codes " :")
      (joined (codes "block " ++ decimal (k + 1)) (listed form.names b.members)
      (joined (codes "block ") (decimal (k + 1)) (word_line (codes "block ") refl)
      (decimal_line (k + 1))) (listed_line form.names b.members named))
      (word_line (codes " :") refl)) (counted_line b.needs))
  leads_line (listing k slopes) line t (inr (inl (r, s, is, goes))) =
      same_line line _ is.written
      (joined (codes "slope " ++ slope_text r.num r.den) (listed form.names s)
      (joined (codes "slope ") (slope_text r.num r.den) (word_line (codes "slope ") refl)
      (slope_text_line r.num r.den)) (listed_line form.names s named))
  leads_line (listing k slopes) line t (inr (inr (is, goes))) =
      same_line line _ is (at_line_line (pos 0) (pos 1))
  leads_line (bases i (width ∷ widths) due) line t h =
      same_line line _ h.1.2 (row_line_line (codes "base ") (label_in form.lines i) h.0
      (word_line (codes "base ") refl) (label_line form.lines i))
  leads_line (bases i [] (r ∷ due)) line t h = same_line line _ h.0 (at_line_line r.num r.den)
  leads_line (bases i [] []) line t h =
      same_line line (codes "end") h.0 (word_line (codes "end") refl)
  leads_line ended line t h = absurd h

  pub bad_line : (text : List ℕ) (start : Cursor) (number : ℕ) → start.at ≡ 0 → start.line ≡ 1
      → Stops form text start header number → IsBadLine form text number
  bad_line text start number zero_at one_line h =
      first_bad (Leads form) header ended (IsFormed form) (answer_lines form) (one_next form)
      leads_line (leads_answer form) (begins_from form) text start number zero_at one_line h

  -- answers of one text have the same lines
  pub one_list : (a b : Answer) → IsFormed form a → IsFormed form b
      → text_of (answer_lines form a) ≡ text_of (answer_lines form b)
      → answer_lines form a ≡ answer_lines form b
  one_list a b ha hb e =
      lines_of_one (Leads form) header ended (IsFormed form) (answer_lines form) (one_next form)
      leads_line (leads_answer form) (begins_from form) a b ha hb e
