use Rattle.std.proofs.Common.{◌≡◌, ◌∙◌, length, sym, subst, ap, arith}
use Rattle.sfm_spec.specs.Sets.{empty_set}
use Rattle.sfm_assign.specs.Splits.{Demands}
use Rattle.sfm_matroid.specs.Matched.{IsMatchedTo}
use Rattle.sfm_matroid.specs.Slots.{suited}
use Rattle.sfm_matroid.proofs.matching.take_each.Goals as goal

pub loop-e-init : goal.loop-e-init
loop-e-init c = rw (c.in_ok-t.ensures ∙ ap empty_set (c.len.ensures ∙ c.requires.sized))
    c.requires.none

pub take-requires-clause-sized : goal.take-requires-clause-sized
take-requires-clause-sized c = rw (ap (λ (d : Demands). d.lists) c.loop-e.invariant.split)
    c.requires.sized

pub take-requires-clause-taken : goal.take-requires-clause-taken
take-requires-clause-taken c =
    let inv = c.loop-e.invariant in
    subst (λ entries. IsMatchedTo entries c.args.s.now c.loop-e.e c.loop-e.t c.loop-e.kept.demand)
    (sym (ap (λ (d : Demands). d.lists) inv.split)) inv

pub loop-e-preserved : goal.loop-e-preserved
loop-e-preserved c = rw (ap (λ (d : Demands). d.lists) c.loop-e.invariant.split) at
    c.in_ok-take.ensures

pub returns-clause-places : goal.returns-clause-places
returns-clause-places c = c.loop-e.invariant.places ∙ sym c.requires.sized

pub returns-clause-taken : goal.returns-clause-taken
returns-clause-taken c =
    let entries = c.args.kept.now.demand.lists in
    let e : c.loop-e.e ≡ length entries = omega (
      arith,
      c.loop-e-test.false,
      c.loop-e.auto.e-end,
      c.len-e-end.ensures,
      c.requires.sized,
    ) in
    c.loop-e.invariant.taken ∙ ap (λ n. suited entries c.args.s.now n) e
