use Rattle.std.proofs.Common.{◌≡◌, ◌+◌, ◌+ℤ◌, ◌∙◌, length, take, Some, sym, ap, subst, FitsSigned, rules, arith}
use Rattle.std.proofs.lemmas.Int.{ints, to_z-of_z}
use Rattle.std.proofs.lemmas.List.{length-map, take_all}
use mir.Syntax.{w128}
use mir.Val.{to_z}
use Rattle.sfm_spec.specs.Sets.{IsPlaced, part}
use Rattle.sfm_spec.specs.Families.{IsAllowed, meanings, sum_at}
use Rattle.sfm_kind.specs.Kinds.{kind_places, kind_value}
use Rattle.sfm_law.proofs.Lists.{all-at}
use Rattle.sfm_check.proofs.Sums.{IsSumOfFirst, first_given, first_more}
use Rattle.sfm_check.proofs.worth.sum_at.Goals as goal

pub take_part-requires : goal.take_part-requires
take_part-requires c =
    let h = all-at (IsPlaced (length c.args.set.now)) kind_places c.args.terms.now
    c.loop-term.term-index c.term-item.result c.loop-term-test.true c.term-item.is
    c.requires.placed in
    rw c.elements.ensures h.below

pub overflow_add-sum : goal.overflow_add-sum
overflow_add-sum c =
    let ts = c.args.terms.now in
    let s = c.args.set.now in
    let i = c.loop-term.term-index in
    let x = c.term-item.result in
    let value : kind_value x (part (kind_places x) s) ≡ Some
    c.in-Some.value = rw (c.in_ok-take_part.ensures, c.elements.ensures) at
    (sym c.in_ok-value.ensures.value ∙ c.in-Some.is) in
    let more = first_more ts s i (to_z w128 c.loop-term.sum-bits) c.in-Some.value x
    c.loop-term-test.true c.term-item.is value c.loop-term.invariant in
    let given = first_given ts s (i + 1) _ c.requires.small more in
    let fv : FitsSigned w128 c.in-Some.value = search rules in
    omega (arith, ints, given.low, given.high, fv)

pub loop-term-preserved : goal.loop-term-preserved
loop-term-preserved c =
    let ts = c.args.terms.now in
    let s = c.args.set.now in
    let i = c.loop-term.term-index in
    let x = c.term-item.result in
    let value : kind_value x (part (kind_places x) s) ≡ Some
    c.in-Some.value = rw (c.in_ok-take_part.ensures, c.elements.ensures) at
    (sym c.in_ok-value.ensures.value ∙ c.in-Some.is) in
    let more : IsSumOfFirst ts s (i + 1)
    (to_z w128 c.loop-term.sum-bits +ℤ c.in-Some.value) =
    first_more ts s i (to_z w128 c.loop-term.sum-bits) c.in-Some.value x c.loop-term-test.true
    c.term-item.is value c.loop-term.invariant in
    let given = first_given ts s (i + 1) _ c.requires.small more in
    let fv : FitsSigned w128 c.in-Some.value = search rules in
    let fs : FitsSigned w128 (to_z w128 c.loop-term.sum-bits +ℤ c.in-Some.value) = omega (
      arith,
      ints,
      given.low,
      given.high,
    ) in
    simp to_z-of_z more

pub value-requires : goal.value-requires
value-requires c = ap length c.in_ok-take_part.ensures
    ∙ (length-map c.elements.result.now _ ∙ ap length c.elements.ensures)

pub returns : goal.returns
returns c =
    let ts = c.args.terms.now in
    let h = c.loop-term.invariant in
    let all : take c.loop-term.term-index ts ≡ ts = take_all c.loop-term.term-index ts
    c.loop-term-test.false in (
      subst (λ z. IsAllowed (meanings kind_places kind_value z) c.args.set.now) all h.allowed,
      h.sum ∙ ap (λ z. sum_at (meanings kind_places kind_value z) c.args.set.now) all,
    )
