-- No right text is longer than the limit: the ground has few elements with short names, and the
-- terms of each sum have few places in all.
use Rattle.std.proofs.Common.{◌≡◌, ℕ, ◌+◌, ◌≤◌, List, [], ◌∷◌, ◌++◌, length, sum, ℤ, sym, ap, subst, arith, codes}
use Rattle.std.specs.Fmt.{signed_decimal}
use Rattle.std.proofs.lemmas.List.{length-append, length-map}
use Rattle.sfm_kind.specs.Instance.{InstanceData, terms_in}
use Rattle.sfm_kind.specs.Limits.{AreInBounds}
use Rattle.sfm_kind.specs.Names.{AreElementNames}
use Rattle.sfm_cert.specs.Answer.{listed, row_lines, text_of}
use Rattle.sfm_cert.specs.LineLists.{numbered}
use Rattle.sfm_cert.specs.Form.{AreFormedRows}
use Rattle.sfm_cert.specs.Grammar.{answer_limit}
use Rattle.sfm_cert.specs.Solved.{form_of}
use Rattle.sfm_cert.proofs.InstanceLengths.{few_lines_of, few_widths}
use Rattle.sfm_cert.proofs.Labels.{AreFewLines}
use Rattle.sfm_cert.proofs.Lengths.{AreFewWidths, AreShort, listed_short, number_text, numbered_short, rows_short, text_append}
use Rattle.sfm_meet.specs.Met.{MetAnswer}
use Rattle.sfm_met.specs.MetText.{IsFormedMet, met_lines}
use Rattle.sfm_met.specs.MetVerdict.{IsRightMet}
use Rattle.sfm_met.specs.Sums.{sum_of_instance}

-- a line has its bytes and the line feed
line_len : (line : List ℕ) (lines : List (List ℕ))
    → length (text_of (line ∷ lines)) ≡ length line + 1 + length (text_of lines)
line_len line lines = omega (arith, length-append line (10 ∷ text_of lines))

-- the rows of a sum, by a short word
sum_rows_short : (word lines widths : List ℕ) (rows : List (List ℤ)) → length word ≤ 8
    → AreFewLines lines → AreFewWidths widths → AreFormedRows widths rows
    → length (text_of (row_lines word lines 1 rows)) ≤ 868352
sum_rows_short word lines widths rows short few_lines few formed =
    let count = length-map rows length in
    let same = ap length formed.widths_are in
    let total = ap sum formed.widths_are in
    let terms = few.terms in
    let places = few.places in
    let all = rows_short word lines 1 rows short few_lines formed.small in
    omega (arith, count, same, total, terms, places, all)

-- the lines of both instances have their terms
abbrev pub AreLined : InstanceData → InstanceData → Type 0
AreLined left right = (terms_in left.lines ≡ length left.terms)
    × (terms_in right.lines ≡ length right.terms)

-- the text of what is told of two instances is short
pub formed_short : (left right : InstanceData) (a : MetAnswer) → AreElementNames left.names
    → AreInBounds (length left.names) left.terms
    → (n : ℕ) → AreInBounds n right.terms → AreLined left right
    → IsFormedMet (form_of left) (form_of right) a
    → length (text_of (met_lines (form_of left) (form_of right) a)) ≤ answer_limit
formed_short left right a fine bounded n bounded_right lined formed =
    let names = left.names in
    let few = fine.few in
    let short : AreShort names = λ i d l. (fine.forms i d l).short in
    let l1 = codes "value " ++ signed_decimal a.value in
    let l2 = codes "set" ++ listed names a.members in
    let l3 = codes "common" ++ numbered a.common in
    let lefts = row_lines (codes "left ") left.lines 1 a.left in
    let rights = row_lines (codes "right ") right.lines 1 a.right in
    let rest = lefts ++ rights ++ codes "end" ∷ [] in
    let number = number_text a.value formed.value in
    let members = listed_short names a.members short in
    let entries = numbered_short a.common formed.common in
    let count = formed.count in
    let by_left = sum_rows_short (codes "left ") left.lines (form_of left).widths a.left
    (omega arith) (few_lines_of (length names) left bounded lined.0)
    (few_widths (length names) left.terms bounded) formed.left_rows in
    let by_right = sum_rows_short (codes "right ") right.lines (form_of right).widths a.right
    (omega arith) (few_lines_of n right bounded_right lined.1)
    (few_widths n right.terms bounded_right) formed.right_rows in
    let h0 = line_len (codes "meet 1") (l1 ∷ l2 ∷ l3 ∷ rest) in
    let h1 = line_len l1 (l2 ∷ l3 ∷ rest) in
    let h2 = line_len l2 (l3 ∷ rest) in
    let h3 = line_len l3 rest in
    let c1 = length-append (codes "value ") (signed_decimal a.value) in
    let c2 = length-append (codes "set") (listed names a.members) in
    let c3 = length-append (codes "common") (numbered a.common) in
    let r1 = text_append (lefts ++ rights) (codes "end" ∷ []) in
    let r2 = text_append lefts rights in
    omega (
      arith,
      few,
      number,
      members,
      entries,
      count,
      by_left,
      by_right,
      h0,
      h1,
      h2,
      h3,
      c1,
      c2,
      c3,
      r1,
      r2,
    )

-- so no right text of two instances is longer than the limit
pub met_short : (left right : InstanceData) (text : List ℕ) → AreElementNames left.names
    → AreInBounds (length left.names) left.terms
    → (n : ℕ) → AreInBounds n right.terms → AreLined left right
    → IsRightMet (sum_of_instance left) (sum_of_instance right) text
    → length text ≤ answer_limit
met_short left right text fine bounded n bounded_right lined r =
    subst (λ (z : List ℕ). length z ≤ answer_limit) (sym r.is_text.written)
    (formed_short left right r.answer fine bounded n bounded_right lined r.is_text.formed)
