use Rattle.std.proofs.Common.{◌≡◌, ℕ, ◌≤◌, Bool, List, length, map, pos, refl, sym, ap, ◌∙◌, arith}
use Rattle.std.proofs.lemmas.Bool.{false≢true}
use Rattle.std.proofs.lemmas.List.{length-map}
use Rattle.sfm_spec.specs.Sets.{empty_set}
use Rattle.sfm_law.specs.declared.breaks.Break.{Break as Found}
use Rattle.sfm_cert.specs.Answer.{Answer, Form, mark_of}
use Rattle.sfm_cert.specs.Form.{IsFormed}
use Rattle.sfm_cert.specs.Solved.{answer_of, break_of, form_of}
use Rattle.sfm_check.specs.Before.{members_before}
use Rattle.sfm_check.specs.Zero.{IsCut}
use Rattle.sfm_check.proofs.SlopeFacts.{before_places, before_same}
use Rattle.sfm_check.proofs.minimum.are_between.Goals as goal
use Rattle.sfm_check.proofs.minimum.are_between.Goals.{then-are_same, else-are_same}

-- there are as many marks as slopes
within : (shown : List Found) (k : ℕ) → k ≤ length (map mark_of (map break_of shown))
    → k ≤ length shown
within shown k few = omega (
  arith,
  few,
  length-map shown break_of,
  length-map (map break_of shown) mark_of,
)

-- a set before a slope has as many places as there are elements
places_of : (form : Form) (a : Answer) (items shown : List Found) (empty set : List Bool) (k : ℕ)
    → IsFormed form a → a.breaks ≡ map break_of items → shown ≡ items
    → empty ≡ empty_set (length form.names)
    → k ≤ length (map mark_of (map break_of shown)) → set ≡ members_before empty shown k
    → length set ≡ length form.names
places_of form a items shown empty set k formed kept slice first few is =
    let count = ap length slice in
    let inside = within shown k few in
    let lk : k ≤ length items = omega (arith, inside, count) in
    ap length (is ∙ ap (λ z. members_before empty z k) slice)
    ∙ before_places form a items empty k formed kept first lk

pub are_same-requires : goal.are_same-requires
are_same-requires c =
    let form = form_of c.args.instance.now in
    let a = answer_of c.args.solved.now in
    let empty : c.in_ok-empty.empty ≡ empty_set (length form.names) = c.in_ok-empty.ensures
    ∙ ap empty_set c.names_len.ensures.len in
    c.requires.least
    ∙ sym (places_of form a c.args.solved.now.breaks.items c.as_slice-breaks.result.now
    c.in_ok-empty.empty c.before-least.result.now c.count_below.result c.requires refl
    c.as_slice-breaks.ensures.value empty c.count_below.ensures.few c.before-least.ensures)

pub are_same-requires-then-are_same : goal.are_same-requires-then-are_same
are_same-requires-then-are_same c =
    let form = form_of c.args.instance.now in
    let a = answer_of c.args.solved.now in
    let empty : c.in_ok-empty.empty ≡ empty_set (length form.names) = c.in_ok-empty.ensures
    ∙ ap empty_set c.names_len.ensures.len in
    c.requires.greatest
    ∙ sym (places_of form a c.args.solved.now.breaks.items c.as_slice-breaks.result.now
    c.in_ok-empty.empty c.before-greatest.result.now c.count_below-2.result c.requires refl
    c.as_slice-breaks.ensures.value empty c.count_below-2.ensures.few c.before-greatest.ensures)

pub before-least-requires : goal.before-least-requires
before-least-requires c = within c.as_slice-breaks.result.now c.count_below.result
    c.count_below.ensures.few

pub before-greatest-requires : goal.before-greatest-requires
before-greatest-requires c = within c.as_slice-breaks.result.now c.count_below-2.result
    c.count_below-2.ensures.few

pub returns : goal.returns
returns c = λ yes.
    let n = length c.args.instance.now.names in
    let items = c.args.solved.now.breaks.items in
    let slice = c.as_slice-breaks.ensures.value in
    let first = c.in_ok-empty.empty in
    let empty : first ≡ empty_set n = c.in_ok-empty.ensures
    ∙ ap empty_set c.names_len.ensures.len in
    let low : IsCut (map mark_of (map break_of items)) (pos 0) c.count_below.result = rw slice at
    c.count_below.ensures in
    let high : IsCut (map mark_of (map break_of items)) (pos 1) c.count_below-2.result = rw slice at
    c.count_below-2.ensures in
    elim c.if-are_same.branch [
      | then-are_same w ↦ record {
        low = c.count_below.result;
        high = c.count_below-2.result;
        low_is = low;
        high_is = high;
        least = c.are_same.ensures.0 w.if-are_same.true
            ∙ (c.before-least.ensures ∙ (ap (λ z. members_before first z c.count_below.result) slice
            ∙ before_same n first items c.count_below.result empty));
        greatest = w.are_same-then-are_same.ensures.0 (sym w.result-is ∙ yes)
            ∙ (c.before-greatest.ensures
            ∙ (ap (λ z. members_before first z c.count_below-2.result) slice
            ∙ before_same n first items c.count_below-2.result empty));
      }
      | else-are_same w ↦ absurd (false≢true (sym w.if-are_same.false ∙ (sym w.result-is ∙ yes)))
    ]
