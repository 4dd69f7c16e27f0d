use Rattle.std.proofs.Common.{◌≡◌, ◌+◌, length, take, unwrap_or, ℤ, pos, ◌+ℤ◌, FitsSigned, rules, arith}
use Rattle.std.proofs.lemmas.Int.{ints}
use Rattle.std.proofs.lemmas.List.{take_all}
use mir.Syntax.{w128}
use Rattle.sfm_spec.specs.Bounds.{IsGiven}
use Rattle.sfm_spec.specs.Families.{meanings, sum_at}
use Rattle.sfm_spec.specs.Sets.{IsPlaced, part}
use Rattle.sfm_law.proofs.Lists.{all-at}
use Rattle.sfm_slope.proofs.Values.{sum_given, sum_more, value_small}
use Rattle.sfm_slope.proofs.worth.sum_at.Given as given
use Rattle.sfm_slope.proofs.worth.sum_at.Goals as goal
use Rattle.sfm_slope.proofs.worth.sum_at.Goals.{After-value_at}

-- the sum of one term more is small, and has the value v of that besides
next : (g : given.Over) (c : After-value_at g) (v : ℤ)
    → let t = g.T.Term in v ≡ unwrap_or
    (t.value_of c.term-item.result (part (t.places c.term-item.result) c.args.set.now)) (pos 0)
    → let after = sum_at (meanings t.places t.value_of
    (take (c.loop-term.term-index + 1) c.args.terms.now)) c.args.set.now in
    IsGiven after
    × (after ≡ (sum_at (meanings t.places t.value_of
    (take c.loop-term.term-index c.args.terms.now)) c.args.set.now +ℤ v))
next g c v is =
    let t = g.T.Term in
    let m = g.met.T.Term in
    let s = c.args.set.now in
    let xs = c.args.terms.now in
    let i = c.loop-term.term-index in
    let small = value_small t.places t.value_of t.size_of m.bounded (λ y. (m.submodular y).at_empty)
    s in (
      sum_given t.places t.value_of t.size_of s small xs (i + 1) c.requires.bounded.small,
      rw is (sum_more t.places t.value_of t.size_of s small xs i c.term-item.result
          c.loop-term-test.true c.term-item.is),
    )

pub value_at-requires : goal.value_at-requires
value_at-requires g c =
    let t = g.T.Term in
    let h = all-at (IsPlaced (length c.args.set.now)) t.places c.args.terms.now
    c.loop-term.term-index c.term-item.result c.loop-term-test.true c.term-item.is
    c.requires.bounded.placed in
    record { placed = h.below }

pub overflow_add-sum : goal.overflow_add-sum
overflow_add-sum g c =
    let fv : FitsSigned w128 c.in_ok-sum.field-0 = search rules in
    let (given, more) = next g (goal.at.overflow_add-sum g c).After-value_at c.in_ok-sum.field-0
    c.in_ok-sum.ensures in
    omega (arith, ints, more, given.low, given.high, fv, c.loop-term.invariant)

pub loop-term-preserved : goal.loop-term-preserved
loop-term-preserved g c =
    let fv : FitsSigned w128 c.in_ok-sum.field-0 = search rules in
    let (given, more) = next g (goal.at.loop-term-preserved g c).After-value_at c.in_ok-sum.field-0
    c.in_ok-sum.ensures in
    omega (arith, ints, more, fv, overflow_add-sum g c, c.loop-term.invariant)

pub returns-clause-small : goal.returns-clause-small
returns-clause-small g c =
    let t = g.T.Term in
    let m = g.met.T.Term in
    let s = c.args.set.now in
    let small = value_small t.places t.value_of t.size_of m.bounded (λ y. (m.submodular y).at_empty)
    s in
    rw c.loop-term.invariant (sum_given t.places t.value_of t.size_of s small c.args.terms.now
    c.loop-term.term-index c.requires.bounded.small)

pub returns-clause-value : goal.returns-clause-value
returns-clause-value g c = rw (take_all c.loop-term.term-index c.args.terms.now
    c.loop-term-test.false) at c.loop-term.invariant
