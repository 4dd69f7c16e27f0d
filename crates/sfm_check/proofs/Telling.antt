-- A verdict that tells what was found of an answer is `valid` exactly where the text is right, and
-- else names its first fault.
use Rattle.std.proofs.Common.{◌≡◌, ℕ, ◌<◌, ◌≤◌, ◌^◌, List, [], ◌∷◌, length, map, get_or, ℤ, pos, sym, ap, ◌∙◌, arith, subst}
use Rattle.std.specs.List.{All}
use Rattle.std.proofs.lemmas.List.{length-append}
use Rattle.std.proofs.lemmas.List.Elements.{All-from_get_or}
use Rattle.sfm_spec.specs.Families.{AreTerms, Meaning, shifted_at, sized_shift}
use Rattle.sfm_spec.proofs.Breakpoints.{breakpoints_unique}
use Rattle.sfm_spec.proofs.Nest.{same_least, same_greatest}
use Rattle.sfm_spec.proofs.Walks.{bases-at}
use Rattle.sfm_sizes.specs.Sizes.{AreElementSizes}
use Rattle.sfm_kind.specs.Names.{AreElementNames}
use Rattle.sfm_cert.specs.Answer.{Answer, Form, mark_of, answer_lines, text_of}
use Rattle.sfm_cert.specs.Grammar.{IsLine, answer_limit}
use Rattle.sfm_cert.specs.LineLists.{IsAnswerText}
use Rattle.sfm_readback.proofs.OneAnswer.{one_answer}
use Rattle.sfm_check.specs.Truth.{IsProvedSection, IsRightFile, IsTrueHead, section_at, sections_of}
use Rattle.sfm_check.specs.declared.verdicts.Wrong.TheVariants.{Long, Grammar, Base, Unproved, Answer as AnswerLine}
use Rattle.sfm_check.specs.declared.verdicts.Verdict.{Verdict}
use Rattle.sfm_check.specs.declared.verdicts.Verdict.TheVariants.{Valid, Invalid}
use Rattle.sfm_check.specs.Verdict.{IsFirstNoBase, IsFirstUnproved, IsFirstWrong, IsVerdict, due_lines}
use Rattle.sfm_check.specs.Findings.{AllAreProved, IsFound, no_section}
use Rattle.sfm_check.proofs.Forming.{few_lines}
use Rattle.sfm_check.proofs.OneBlocks.{one_blocks}
use Rattle.sfm_check.proofs.WrongLines.{line_due, slope_lines-same}

-- a text has a byte for each line
length-text : (lines : List (List ℕ)) → length lines ≤ length (text_of lines)
length-text [] = omega arith
length-text (line ∷ lines) = let r = length-text
    lines in omega (arith, r, length-append line (10 ∷ text_of lines))

at_most : (a b c : ℕ) → a ≤ b → b ≤ c → a ≤ c
at_most a b c l k = omega arith

pub few_by_text : (form : Form) (text : List ℕ) (a : Answer) → IsAnswerText form text a
    → length text ≤ answer_limit → length (answer_lines form a) ≤ answer_limit
few_by_text form text a t l = at_most (length (answer_lines form a))
    (length (text_of (answer_lines form a))) answer_limit (length-text (answer_lines form a))
    (subst (λ (z : List ℕ). length z ≤ answer_limit) t.written l)

module _ (form : Form) (terms : List Meaning) (sizes : List ℤ) (text : List ℕ) (a : Answer)
    (clean : IsLine form.header) (fine : AreElementNames form.names)
    (fit : AreTerms (length form.names) terms) (sized : AreElementSizes (length form.names) sizes)
    (is_text : IsAnswerText form text a) (short : length text ≤ answer_limit) where
  all_proved : AllAreProved terms (length form.names) sizes a
      → All (IsProvedSection terms (length form.names) sizes) (sections_of a)
  all_proved proved = All-from_get_or (IsProvedSection terms (length form.names) sizes)
      (sections_of a) no_section proved

  right : IsTrueHead terms (length form.names) sizes a
      → AllAreProved terms (length form.names) sizes a → IsRightFile form terms sizes text
  right head proved = record {
    answer = a;
    is_text = is_text;
    head = head;
    sections = all_proved proved;
  }

  few_blocks : length a.blocks < 2 ^ 64
  few_blocks = let few = few_by_text form text a is_text
      short in omega (arith, few, few_lines form a)

  same_answer : (r : IsRightFile form terms sizes text) → r.answer ≡ a
  same_answer r = sym (one_answer form fine clean text a r.answer few_blocks is_text r.is_text)

  -- a right file says what was read
  head_of : IsRightFile form terms sizes text → IsTrueHead terms (length form.names) sizes a
  head_of r = subst (IsTrueHead terms (length form.names) sizes) (same_answer r) r.head

  proved_of : IsRightFile form terms sizes text → (s : ℕ) → s < length (sections_of a)
      → IsProvedSection terms (length form.names) sizes (section_at a s)
  proved_of r s l =
      let all : All (IsProvedSection terms (length form.names) sizes)
      (sections_of a) = subst (λ (z : Answer).
      All (IsProvedSection terms (length form.names) sizes) (sections_of z)) (same_answer r)
      r.sections in
      all s no_section l

  no_base : (line : ℕ) → IsFirstNoBase terms a line → IsRightFile form terms sizes text → ⊥
  no_base line w r =
      let p = proved_of r w.section w.is_section in
      w.no_base (bases-at (section_at a w.section).den terms (section_at a w.section).bases w.term
      p.bases w.is_term).1

  no_proof : (line : ℕ) → IsFirstUnproved terms (length form.names) sizes a line
      → IsRightFile form terms sizes text → ⊥
  no_proof line w r = w.unproved (proved_of r w.section w.is_section)

  -- two true answers have the same lines
  due_same : (x y : Answer) → IsTrueHead terms (length form.names) sizes x
      → IsTrueHead terms (length form.names) sizes y → due_lines form x ≡ due_lines form y
  due_same x y hx hy =
      let n = length form.names in
      let zero' = sized_shift sizes (pos 0) in
      let least = same_least terms n (pos 1) zero' x.least y.least hx.least hy.least in
      let greatest = same_greatest terms n (pos 1) zero' x.greatest y.greatest hx.greatest
      hy.greatest in
      let value : x.value ≡ y.value = hx.value
      ∙ (ap (shifted_at terms (pos 1) zero') least ∙ sym hy.value) in
      let blocks = one_blocks terms n (pos 1) zero' x.blocks y.blocks hx.blocks hy.blocks in
      let marks = breakpoints_unique terms n sizes fit sized.places sized.positive
      (map mark_of x.breaks) (map mark_of y.breaks) hx.breaks hy.breaks in
      let slopes = slope_lines-same form.names x.breaks y.breaks marks in
      cc (value, least, greatest, blocks, slopes)

  no_line : (line : ℕ) → IsFirstWrong form terms sizes a line → IsRightFile form terms sizes text
      → ⊥
  no_line line w r =
      let same = due_same a w.truth (head_of r) w.is_true in
      let c = ap length same in
      let l : w.at < length (due_lines form a) = subst (λ z. w.at < z) (sym c) w.is_due in
      w.wrong (line_due form a w.at l ∙ ap (λ z. get_or z w.at []) same)

  pub found_verdict : (v : Verdict) → IsFound form terms sizes a v
      → IsVerdict form terms sizes text v
  found_verdict Valid f = right f.0 f.1
  found_verdict (Invalid line Long) f = absurd f
  found_verdict (Invalid line Grammar) f = absurd f
  found_verdict (Invalid line Base) f = ((λ r. no_base line f r), (short, (a, is_text, f)))
  found_verdict (Invalid line Unproved) f = ((λ r. no_proof line f.1 r), (short, (a, is_text, f)))
  found_verdict (Invalid line AnswerLine) f =
      ((λ r. no_line line f.1 r), (short, (a, is_text, (all_proved f.0, f.1))))
