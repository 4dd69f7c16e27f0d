use Rattle.std.proofs.Common.{◌≡◌, ℕ, ◌+◌, ◌<◌, ◌^◌, List, length, get_or, pos, ◌≤ℤ◌, sym, ap, ◌∙◌, arith}
use Rattle.std.proofs.lemmas.List.{length-map}
use Rattle.sfm_kind.specs.declared.kind.Kind.{Kind}
use Rattle.sfm_kind.specs.Limits.{AreInBounds}
use Rattle.sfm_kind.specs.Kinds.{kind_places, kind_value, kind_size}
use Rattle.sfm_law.proofs.Lists.{length-meanings}
use Rattle.sfm_cert.specs.Solved.{form_of}
use Rattle.sfm_check.specs.Findings.{AreBasesIn, IsFirstNoBaseIn}
use Rattle.sfm_check.proofs.Forming.{row_count, section_bases, small_sizes}
use Rattle.sfm_meet.specs.Told.{met_of, side_terms}
use Rattle.sfm_met.specs.Sums.{sum_of_instance}
use Rattle.sfm_met.proofs.Rows.{first_left, first_right}
use Rattle.sfm_met.proofs.judging.first_no_met_base.Goals.{In-Some, In-Some-2, In_default}
use Rattle.sfm_met.proofs.judging.first_no_met_base.Goals as goal

pub first_no_base_in-requires-clause-bounded : goal.first_no_base_in-requires-clause-bounded
first_no_base_in-requires-clause-bounded c =
    let terms = c.args.left.now.terms in
    let small : (k : ℕ) (d : Kind) → k < length terms
    → kind_size (get_or terms k d) ≤ℤ pos (10 ^ 18) =
    small_sizes (length c.args.left.now.names) terms c.terms-left_terms.ensures.bounded in
    rw c.terms-left_terms.ensures.terms small

pub first_no_base_in-requires-2-clause-bounded : goal.first_no_base_in-requires-2-clause-bounded
first_no_base_in-requires-2-clause-bounded c =
    let terms = c.args.right.now.terms in
    let small : (k : ℕ) (d : Kind) → k < length terms
    → kind_size (get_or terms k d) ≤ℤ pos (10 ^ 18) =
    small_sizes (length c.args.right.now.names) terms c.terms-right_terms.ensures.bounded in
    rw c.terms-right_terms.ensures.terms small

few_terms : (n : ℕ) (ts : List Kind) (i : ℕ) → AreInBounds n ts → i < length (side_terms ts)
    → i < 16384
few_terms n ts i bounded l = omega (
  arith,
  l,
  bounded.few_terms,
  length-meanings kind_places kind_value ts,
  length-map ts kind_places,
)

-- there is a row for each term of the left
rows_left : (c : In_default) → length c.args.met.now.bases.left ≡ length
    (side_terms c.args.left.now.terms)
rows_left c =
    let terms = c.args.left.now.terms in
    row_count (form_of c.args.left.now).widths c.args.met.now.bases.left c.requires.left_rows
    ∙ length-map terms (λ term. length (kind_places term))
    ∙ sym (length-meanings kind_places kind_value terms)

rows_left' : (c : In-Some) → length c.args.met.now.bases.left ≡ length
    (side_terms c.args.left.now.terms)
rows_left' c =
    let terms = c.args.left.now.terms in
    row_count (form_of c.args.left.now).widths c.args.met.now.bases.left c.requires.left_rows
    ∙ length-map terms (λ term. length (kind_places term))
    ∙ sym (length-meanings kind_places kind_value terms)

found_left : (c : In-Some) → IsFirstNoBaseIn (side_terms c.args.left.now.terms) (pos 1)
    c.args.met.now.bases.left c.in-Some.i
found_left c = rw (c.in-Some.is, c.terms-left_terms.ensures.terms) at c.in_ok-i.ensures

good_left : (c : In_default) → AreBasesIn (side_terms c.args.left.now.terms) (pos 1)
    c.args.met.now.bases.left
good_left c = rw (c.in_default.is, c.terms-left_terms.ensures.terms) at c.in_ok-i.ensures

found_right : (c : In-Some-2) → IsFirstNoBaseIn (side_terms c.args.right.now.terms) (pos 1)
    c.args.met.now.bases.right c.in-Some-2.i
found_right c = rw (c.in-Some-2.is, c.terms-right_terms.ensures.terms) at c.in_ok-i-2.ensures

pub overflow_add-result : goal.overflow_add-result
overflow_add-result c =
    let few = few_terms _ c.args.left.now.terms c.in-Some.i c.terms-left_terms.ensures.bounded
    (found_left (goal.at.overflow_add-result c).In-Some).is_term in
    omega (arith, few)

pub overflow_add-result-in-Some-2 : goal.overflow_add-result-in-Some-2
overflow_add-result-in-Some-2 c =
    let few = few_terms _ c.args.right.now.terms c.in-Some-2.i c.terms-right_terms.ensures.bounded
    (found_right (goal.at.overflow_add-result-in-Some-2 c).In-Some-2).is_term in
    omega (
      arith,
      few,
      ap length c.terms-left_terms.ensures.terms,
      c.terms-left_terms.ensures.bounded.few_terms,
      length-map c.args.left.now.terms kind_places,
    )

pub overflow_add-result-in-Some-2-2 : goal.overflow_add-result-in-Some-2-2
overflow_add-result-in-Some-2-2 c =
    let few = few_terms _ c.args.right.now.terms c.in-Some-2.i c.terms-right_terms.ensures.bounded
    (found_right (goal.at.overflow_add-result-in-Some-2-2 c).In-Some-2).is_term in
    omega (
      arith,
      few,
      ap length c.terms-left_terms.ensures.terms,
      c.terms-left_terms.ensures.bounded.few_terms,
      length-map c.args.left.now.terms kind_places,
    )

pub returns-in-Some : goal.returns-in-Some
returns-in-Some c =
    let p = (goal.at.returns-in-Some c).In-Some in
    first_left (sum_of_instance c.args.left.now) (sum_of_instance c.args.right.now)
    (met_of c.args.met.now) (rows_left' p) c.in-Some.i (found_left p)

pub returns-in-Some-2 : goal.returns-in-Some-2
returns-in-Some-2 c =
    let d = (goal.at.returns-in-Some-2 c).In_default in
    let p = (goal.at.returns-in-Some-2 c).In-Some-2 in
    let n : length c.terms-left_terms.result.now ≡ length
    (side_terms c.args.left.now.terms) = ap length c.terms-left_terms.ensures.terms
    ∙ sym (length-meanings kind_places kind_value c.args.left.now.terms) in
    first_right (sum_of_instance c.args.left.now) (sum_of_instance c.args.right.now)
    (met_of c.args.met.now) (rows_left d) c.in-Some-2.i
    (length c.terms-left_terms.result.now + c.in-Some-2.i + 5)
    (ap (λ (z : ℕ). z + c.in-Some-2.i + 5) n) (good_left d) (found_right p)

pub returns : goal.returns
returns c =
    let d = (goal.at.returns c).In_default in
    let good : AreBasesIn (side_terms c.args.right.now.terms) (pos 1)
    c.args.met.now.bases.right = rw (c.in_default-2.is, c.terms-right_terms.ensures.terms) at
    c.in_ok-i-2.ensures in (
      section_bases (pos 1) c.args.left.now.terms c.args.met.now.bases.left c.requires.left_rows
          (good_left d),
      section_bases (pos 1) c.args.right.now.terms c.args.met.now.bases.right c.requires.right_rows
          good,
    )
