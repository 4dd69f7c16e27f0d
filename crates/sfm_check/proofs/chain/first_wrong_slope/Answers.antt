use Rattle.std.proofs.Common.{◌≡◌, length, map, ⊎_elim, inl, inr, refl, sym, ap, ◌∙◌, arith, subst}
use Rattle.std.proofs.lemmas.Bool.{both_ways, cases_lt}
use Rattle.std.proofs.lemmas.List.{length-map}
use Rattle.sfm_spec.specs.Sets.{empty_set, size}
use Rattle.sfm_spec.specs.Search.{mark_at}
use Rattle.sfm_law.specs.declared.breaks.Break.{Break as Found}
use Rattle.sfm_cert.specs.Answer.{mark_of}
use Rattle.sfm_cert.specs.Solved.{break_of, form_of}
use Rattle.sfm_check.specs.Before.{members_before}
use Rattle.sfm_check.specs.Findings.{IsNextSlope, set_before}
use Rattle.sfm_check.specs.Offers.{elements, meant, of_offer, said}
use Rattle.sfm_check.proofs.SlopeFacts.{IsJudged, before_places, before_same, by_next, judged, next_by, size_of_whole, whole_by_size}
use Rattle.sfm_check.proofs.chain.first_wrong_slope.Goals as goal
use Rattle.sfm_check.proofs.chain.first_wrong_slope.Goals.{After-index-breaks-k, After-size}

-- the slope that is judged
slope : (c : After-index-breaks-k)
    → of_offer IsJudged c.args.offer.now c.loop-k.k c.index-breaks-k.result c.index-found-k.result
    c.before-in-loop-k.result.now
slope c =
    let items = c.args.offer.now.solved.now.breaks.items in
    let slice = c.as_slice-breaks.ensures.value in
    let few = ap length slice in
    let lt = c.loop-k-test.true in
    let empty = c.in_ok-empty.ensures ∙ ap empty_set c.names_len-n.ensures.len in
    judged (meant c.args.offer.now) c.args.offer.now.sizes.now
    (form_of c.args.offer.now.instance.now) (said c.args.offer.now) items c.args.found.now
    c.loop-k.k c.index-breaks-k.result c.index-found-k.result c.in_ok-empty.empty
    c.before-in-loop-k.result.now
    c.requires.formed c.requires.told refl (omega (arith, lt, few))
    (rw slice at c.index-breaks-k.is) c.index-found-k.is empty
    (c.before-in-loop-k.ensures ∙ ap (λ z. members_before c.in_ok-empty.empty z c.loop-k.k)
    slice)

pub is_next-requires : goal.is_next-requires
is_next-requires c =
    let h = slope (goal.at.is_next-requires c).After-index-breaks-k in
    let set = ap (λ (z : Found). length z.set) c.index-breaks-k.is in
    record {
      least = h.at.least.minimiser.places ∙ sym h.places;
      greatest = h.at.greatest.minimiser.places ∙ (sym h.at.places ∙ set);
      both = sym set ∙ (h.at.places ∙ sym h.places);
    }

pub loop-k-preserved : goal.loop-k-preserved
loop-k-preserved c = λ j l.
    let a = said c.args.offer.now in
    let n = elements c.args.offer.now in
    let set = ap (λ (z : Found). z.set) (sym c.index-breaks-k.is) in
    let t = c.is_next.ensures.0 c.if-not-is_next.false in
    let next = next_by (slope (goal.at.loop-k-preserved c).After-index-breaks-k) t.0 (t.1 ∙ set)
    (λ e. t.2 (set ∙ e)) in
    ⊎_elim
    (λ less. c.loop-k.invariant j less)
    (λ ge. let at : c.loop-k.k ≡ j = omega arith in subst (λ i. IsNextSlope (meant c.args.offer.now)
    n c.args.offer.now.sizes.now (set_before (empty_set n) (map mark_of a.breaks) i)
    (mark_at (map mark_of a.breaks) i)) at next)
    (cases_lt j c.loop-k.k)

pub returns-then-not-is_next : goal.returns-then-not-is_next
returns-then-not-is_next c =
    let items = c.args.offer.now.solved.now.breaks.items in
    let set = ap (λ (z : Found). z.set) c.index-breaks-k.is in
    let few = ap length c.as_slice-breaks.ensures.value in
    let lt = c.loop-k-test.true in
    record {
      before = c.loop-k.invariant;
      wrong = inl (
        omega (arith, lt, few, length-map items break_of, length-map (map break_of items) mark_of),
        (λ next.
            let t = by_next (slope (goal.at.returns-then-not-is_next c).After-index-breaks-k)
            next in
            both_ways c.is_next.result c.if-not-is_next.true
            (c.is_next.ensures.1 (t.0, t.1 ∙ set, (λ e. t.2 (set ∙ e))))),
      );
    }

-- as many slopes are gone through as there are, and behind the last one stands its set
last : (c : After-size) → let marks = map mark_of (said c.args.offer.now).breaks in
    (length c.as_slice-breaks.result.now ≡ length marks)
    × (c.before-2.result.now ≡ set_before (empty_set (elements c.args.offer.now)) marks
    (length marks))
last c =
    let n = elements c.args.offer.now in
    let items = c.args.offer.now.solved.now.breaks.items in
    let slice = c.as_slice-breaks.ensures.value in
    let few = ap length slice in
    let empty : c.in_ok-empty.empty ≡ empty_set n = c.in_ok-empty.ensures
    ∙ ap empty_set c.names_len-n.ensures.len in
    let marks = map mark_of (map break_of items) in
    let count : length c.as_slice-breaks.result.now ≡ length
    marks = omega (
      arith,
      few,
      length-map items break_of,
      length-map (map break_of items) mark_of,
    ) in (
      count,
      c.before-2.ensures
          ∙ (ap (λ z. members_before c.in_ok-empty.empty z (length c.as_slice-breaks.result.now))
          slice ∙ (ap (members_before c.in_ok-empty.empty items) count
          ∙ before_same n c.in_ok-empty.empty items (length marks) empty)),
    )

pub returns-then-size-n : goal.returns-then-size-n
returns-then-size-n c =
    let a = said c.args.offer.now in
    let n = elements c.args.offer.now in
    let items = c.args.offer.now.solved.now.breaks.items in
    let empty : c.in_ok-empty.empty ≡ empty_set n = c.in_ok-empty.ensures
    ∙ ap empty_set c.names_len-n.ensures.len in
    let (count, is) = last (goal.at.returns-then-size-n c).After-size in
    let behind = length (map mark_of a.breaks) in
    let places : length (members_before c.in_ok-empty.empty items behind) ≡ n = before_places
    (form_of c.args.offer.now.instance.now) a items c.in_ok-empty.empty behind c.requires.formed
    refl empty (omega (
      arith,
      length-map items break_of,
      length-map (map break_of items) mark_of,
    )) in
    let same : c.before-2.result.now ≡ members_before c.in_ok-empty.empty items behind = is
    ∙ sym (before_same n c.in_ok-empty.empty items behind empty) in
    let end = c.loop-k-test.false in
    let full : size c.before-2.result.now ≡ n = sym c.size.ensures
    ∙ (c.if-size-n.true ∙ c.names_len-n.ensures.len) in
    record {
      each = λ k l. c.loop-k.invariant k (omega (arith, l, end, count));
      ends = sym is ∙ whole_by_size n c.before-2.result.now (ap length same ∙ places) full;
    }

pub returns : goal.returns
returns c =
    let n = elements c.args.offer.now in
    let marks = map mark_of (said c.args.offer.now).breaks in
    let (count, is) = last (goal.at.returns c).After-size in
    let end = c.loop-k-test.false in
    record {
      before = λ j l. c.loop-k.invariant j (omega (arith, l, end));
      wrong = inr (
        count,
        (λ whole. c.if-size-n.false (c.size.ensures
            ∙ (size_of_whole n c.before-2.result.now
            (is ∙ (ap (set_before (empty_set n) marks) (sym count) ∙ whole))
            ∙ sym c.names_len-n.ensures.len))),
      );
    }
