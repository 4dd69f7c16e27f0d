use Rattle.std.proofs.Common.{◌≡◌, ◌<◌, false, length, map, ⊎_elim, sym, ap, ◌∙◌, refl, arith, subst}
use Rattle.std.proofs.lemmas.Bool.{cases_lt, eqb-true}
use Rattle.std.proofs.lemmas.List.{length-map, length-replicate}
use Rattle.sfm_spec.specs.Sets.{empty_set, size, whole_set}
use Rattle.sfm_spec.specs.Families.{meanings}
use Rattle.sfm_kind.specs.Kinds.{kind_places, kind_value}
use Rattle.sfm_cert.specs.Answer.{mark_of}
use Rattle.sfm_cert.specs.Form.{IsFormedBreak}
use Rattle.sfm_cert.specs.Solved.{answer_of, break_of, form_of}
use Rattle.sfm_check.specs.Findings.{no_section, set_before}
use Rattle.sfm_check.specs.Values.{IsStepAt, IsWorth}
use Rattle.sfm_check.specs.Offers.{elements, meant, said}
use Rattle.sfm_check.proofs.AllSlopes.{fit}
use Rattle.sfm_check.proofs.ByValues.{slopes_right}
use Rattle.sfm_check.proofs.Forming.{all_bases}
use Rattle.sfm_check.proofs.KeptSlopes.{behind_at, formed_at, step_by}
use Rattle.sfm_check.proofs.SlopeFacts.{before_places, before_same, whole_by_size}
use Rattle.sfm_check.proofs.values.are_slopes_right.Goals.{After-index-found}
use Rattle.sfm_check.proofs.values.are_slopes_right.Goals as goal

-- the slope at the place is of good form
formed : (c : After-index-found)
    → IsFormedBreak (elements c.args.offer.now) (form_of c.args.offer.now.instance.now).widths
    (break_of c.index-found.result.now)
formed c =
    let lt = c.loop-k-test.true in
    formed_at (form_of c.args.offer.now.instance.now) (said c.args.offer.now)
    c.args.offer.now.solved.now.breaks.items c.loop-k.k c.index-found.result.now refl
    (omega (arith, lt, c.args.offer.now.solved.now.breaks.ok.0, c.len-k-end.ensures))
    c.index-found.ensures c.requires.offer.formed

pub attain-requires-clause-formed : goal.attain-requires-clause-formed
attain-requires-clause-formed c = formed (goal.at.attain-requires-clause-formed c).After-index-found

pub worth_of-requires-in-loop-k-clause-places : goal.worth_of-requires-in-loop-k-clause-places
worth_of-requires-in-loop-k-clause-places c =
    (formed (goal.at.worth_of-requires-in-loop-k-clause-places c).After-index-found).members.places

pub worth_of-requires-clause-places : goal.worth_of-requires-clause-places
worth_of-requires-clause-places c = ap length c.in_ok-empty.ensures
    ∙ (length-replicate c.names_len-n.result false ∙ c.names_len-n.ensures.len)

pub ascends-requires : goal.ascends-requires
ascends-requires c = let lt = c.loop-k-test.true in omega (
  arith,
  lt,
  c.args.offer.now.solved.now.breaks.ok.0,
  c.len-k-end.ensures,
  ap length c.deref.ensures.value,
)

pub attain-requires-clause-before : goal.attain-requires-clause-before
attain-requires-clause-before c = c.loop-k.invariant.1

pub attain-requires-clause-here : goal.attain-requires-clause-here
attain-requires-clause-here c = rw c.in-Some-2.is at c.in_ok-here.ensures.small

pub loop-k-init : goal.loop-k-init
loop-k-init c =
    let ms = meant c.args.offer.now in
    let empty : c.in_ok-empty.empty ≡ empty_set (elements c.args.offer.now) = c.in_ok-empty.ensures
    ∙ ap empty_set c.names_len-n.ensures.len in
    let worth : IsWorth ms c.args.offer.now.sizes.now c.in_ok-empty.empty
    c.in-Some.before = rw c.in-Some.is at c.in_ok-before.ensures.worth in (
      subst (λ s. IsWorth ms c.args.offer.now.sizes.now s c.in-Some.before) empty worth,
      rw c.in-Some.is at c.in_ok-before.ensures.small,
      λ j l. absurd (omega (arith, l)),
    )

pub loop-k-preserved : goal.loop-k-preserved
loop-k-preserved c =
    let solved = c.args.offer.now.solved.now in
    let ms = meant c.args.offer.now in
    let n = elements c.args.offer.now in
    let items = solved.breaks.items in
    let k = c.loop-k.k in
    let lt = c.loop-k-test.true in
    let count = solved.breaks.ok.0 in
    let lk : c.loop-k.k < length items = omega (arith, lt, count, c.len-k-end.ensures) in
    let b = c.index-found.result.now in
    let here = c.in-Some-2.here in
    let worth : IsWorth ms c.args.offer.now.sizes.now b.set here = rw c.in-Some-2.is at
    c.in_ok-here.ensures.worth in
    let grows = c.if-before-here.false in
    let attained = c.in_ok-attain.ensures c.if-not-branch.false in
    let up = c.ascends.ensures c.if-not-ascends.false in
    let step : IsStepAt ms n c.args.offer.now.sizes.now (answer_of solved) k = step_by ms n
    c.args.offer.now.sizes.now solved k b c.loop-k.before here lk c.index-found.ensures
    c.loop-k.invariant.0 worth (omega (arith, grows)) attained.0 attained.1
    (rw c.deref.ensures.value at up) in (
      subst (λ s. IsWorth ms c.args.offer.now.sizes.now s here)
          (sym (behind_at (empty_set n) items k b lk c.index-found.ensures)) worth,
      rw c.in-Some-2.is at c.in_ok-here.ensures.small,
      (λ j l. ⊎_elim
          (λ less. c.loop-k.invariant.2 j less)
          (λ ge. let at : c.loop-k.k ≡ j = omega arith in subst (IsStepAt ms n
          c.args.offer.now.sizes.now (answer_of solved)) at step)
          (cases_lt j k)),
    )

pub returns : goal.returns
returns c = λ true.
    let instance = c.args.offer.now.instance.now in
    let solved = c.args.offer.now.solved.now in
    let a = answer_of solved in
    let ts = instance.terms in
    let ms = meanings kind_places kind_value ts in
    let n = length instance.names in
    let items = solved.breaks.items in
    let k = c.loop-k.k in
    let end = c.loop-k-test.false in
    let upto = c.loop-k.auto.k-end in
    let count = solved.breaks.ok.0 in
    let last : c.loop-k.k ≡ length items = omega (arith, end, upto, count, c.len-k-end.ensures) in
    let breaks : length a.breaks ≡ length items = length-map items break_of in
    let w = c.loop-k.invariant.0 in
    let size_is = w.size in
    let whole_size : c.loop-k.before.size ≡ c.names_len-n.result = eqb-true c.loop-k.before.size
    c.names_len-n.result true in
    let places : length (set_before (empty_set n) (map mark_of a.breaks) k) ≡ n = ap length
    (sym (before_same n (empty_set n) items k refl))
    ∙ before_places (form_of instance) a items (empty_set n) k c.requires.offer.formed refl refl
    (omega (arith, last)) in
    let full : size (set_before (empty_set n) (map mark_of a.breaks) k) ≡ n = sym size_is
    ∙ (whole_size ∙ c.names_len-n.ensures.len) in
    let ends : set_before (empty_set n) (map mark_of a.breaks) (length a.breaks) ≡ whole_set
    n = ap (set_before (empty_set n) (map mark_of a.breaks)) (breaks ∙ sym last)
    ∙ whole_by_size n (set_before (empty_set n) (map mark_of a.breaks) k) places full in
    slopes_right ms n c.args.offer.now.sizes.now (fit n ts c.tell_kept.ensures.bounded)
    c.requires.offer.sizes (form_of instance) a refl c.requires.offer.formed
    (λ s l. all_bases instance a c.requires.offer.formed c.requires.bases s no_section l)
    (λ j l. c.loop-k.invariant.2 j (omega (arith, l, last, breaks))) ends
