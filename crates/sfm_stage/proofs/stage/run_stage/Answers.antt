use Rattle.std.proofs.Common.{◌≡◌, ◌+◌, ◌^◌, ◌≤◌, length, subst, arith}
use Rattle.std.specs.List.{All}
use Rattle.std.specs.Prelude.{unwrap_or}
use Rattle.std.proofs.lemmas.Int.{ints}
use Rattle.sfm_spec.specs.Bounds.{IsEntry}
use Rattle.sfm_spec.specs.Families.{meanings}
use Rattle.sfm_exchange.proofs.Summing.{sums_small}
use Rattle.sfm_stage.specs.Served.{AreServed, IsServing}
use Rattle.sfm_stage.proofs.Chains.{serving_join, serving_none, small_still, unwrap_none}
use Rattle.sfm_stage.proofs.stage.run_stage.Given as given
use Rattle.sfm_stage.proofs.stage.run_stage.Goals as goal
use Rattle.sfm_stage.proofs.stage.run_stage.Goals.{In_ok-more}

-- the walks so far, and those of a look
serving : (g : given.Over) (c : In_ok-more g)
    → let t = g.T.Term in IsServing (meanings t.places t.value_of c.args.terms.now) c.args.low.now
    c.args.high.now (c.loop.walks + unwrap_or c.in_ok-more.field-0 0) c.args.graph.now.bases
    c.look.new.graph.bases
serving g c =
    let t = g.T.Term in
    serving_join (meanings t.places t.value_of c.args.terms.now) c.args.low.now c.args.high.now
    c.loop.walks (unwrap_or c.in_ok-more.field-0 0) c.args.graph.now.bases c.loop.graph.bases
    c.look.new.graph.bases c.loop.invariant.2 c.in_ok-more.ensures.serving

pub kept_at-requires-clause-places : goal.kept_at-requires-clause-places
kept_at-requires-clause-places g c = rw c.deref.ensures.value c.requires.graph.are_sums.places

pub kept_at-requires-clause-small : goal.kept_at-requires-clause-small
kept_at-requires-clause-small g c =
    let t = g.T.Term in
    let h = c.requires.graph in
    let small : All (λ x. All IsEntry x) c.args.graph.now.bases = λ k d l i e lt.
    let s = c.requires.small k d l i e
    lt in record { low = omega (arith, ints, s.low); high = omega (arith, ints, s.high) } in
    rw c.deref.ensures.value (sums_small t.places t.value_of c.args.terms.now
    (length c.args.low.now) c.args.graph.now.bases c.args.graph.now.sums.items h.are_sums small
    h.bounded.few_places)

pub loop-init : goal.loop-init
loop-init g c =
    let t = g.T.Term in (
      c.requires.graph,
      c.in_ok-kept.ensures (meanings t.places t.value_of c.args.terms.now)
          c.args.graph.now.bases (rw c.deref.ensures.value c.requires.graph.are_sums),
      serving_none (meanings t.places t.value_of c.args.terms.now) c.args.low.now c.args.high.now
          c.args.graph.now.bases,
      omega arith,
    )

pub look-requires-clause-graph : goal.look-requires-clause-graph
look-requires-clause-graph g c = c.loop.invariant.0

pub look-requires-clause-small : goal.look-requires-clause-small
look-requires-clause-small g c = small_still (10 ^ 29) c.loop.invariant.2 c.requires.small
    (let few = c.loop.invariant.3 in let b = c.min-looks.ensures in omega (
      arith,
      few,
      b,
      c.loop-test.true,
    ))

pub look-requires-clause-kept : goal.look-requires-clause-kept
look-requires-clause-kept g c = c.loop.invariant.1

pub returns-in_default-clause-small : goal.returns-in_default-clause-small
returns-in_default-clause-small g c =
    let at = (goal.at.returns-in_default-clause-small g c).In_ok-more in
    small_still (10 ^ 30) (serving g at) c.requires.small
    (let few = c.loop.invariant.3 in let one = c.in_ok-more.ensures.few in let b =
    c.min-looks.ensures in omega (arith, few, one, b, c.loop-test.true))

pub returns-in_default-clause-few : goal.returns-in_default-clause-few
returns-in_default-clause-few g c =
    let few = c.loop.invariant.3 in let b = c.min-looks.ensures in omega (
      arith,
      few,
      b,
      c.loop-test.true,
    )

pub returns-in_default-clause-most : goal.returns-in_default-clause-most
returns-in_default-clause-most g c =
    let few = c.loop.invariant.3 in let b = c.min-looks.ensures in omega (
      arith,
      few,
      b,
      c.loop-test.true,
    )

pub returns-in_default-clause-served : goal.returns-in_default-clause-served
returns-in_default-clause-served g c =
    let t = g.T.Term in
    let at = (goal.at.returns-in_default-clause-served g c).In_ok-more in
    let none = unwrap_none c.in_ok-more.field-0 c.in_default.not-Some in
    let same : c.loop.walks + unwrap_or c.in_ok-more.field-0
    0 ≡ c.loop.walks = omega (arith, none) in
    subst (λ k. AreServed (meanings t.places t.value_of c.args.terms.now) c.args.low.now
    c.args.high.now k c.args.graph.now.bases c.look.new.graph.bases) same (serving g at).served

pub overflow_add-walks : goal.overflow_add-walks
overflow_add-walks g c =
    let few = c.loop.invariant.3 in
    let one : c.in-Some.more ≤ 1 = rw c.in-Some.is at c.in_ok-more.ensures.few in
    let b = c.min-looks.ensures in
    omega (arith, few, one, b, c.loop-test.true)

pub loop-preserved : goal.loop-preserved
loop-preserved g c =
    let few = c.loop.invariant.3 in
    let e = c.in_ok-more.ensures in
    let one : c.in-Some.more ≤ 1 = rw c.in-Some.is at e.few in (
      e.graph,
      e.kept,
      rw c.in-Some.is at (serving g (goal.at.loop-preserved g c).In_ok-more),
      omega (arith, few, one),
    )

pub returns-clause-graph : goal.returns-clause-graph
returns-clause-graph g c = c.loop.invariant.0

pub returns-clause-small : goal.returns-clause-small
returns-clause-small g c = small_still (10 ^ 30) c.loop.invariant.2 c.requires.small
    (let few = c.loop.invariant.3 in let b = c.min-looks.ensures in omega (
      arith,
      few,
      b,
      c.loop.auto.counter-end,
    ))

pub returns-clause-few : goal.returns-clause-few
returns-clause-few g c =
    let few = c.loop.invariant.3 in let b = c.min-looks.ensures in omega (
      arith,
      few,
      b,
      c.loop.auto.counter-end,
    )

pub returns-clause-most : goal.returns-clause-most
returns-clause-most g c =
    let few = c.loop.invariant.3 in let b = c.min-looks.ensures in omega (
      arith,
      few,
      b,
      c.loop.auto.counter-end,
    )

pub returns-clause-served : goal.returns-clause-served
returns-clause-served g c = c.loop.invariant.2.served
