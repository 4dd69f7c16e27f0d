use Rattle.std.proofs.Common.{◌≡◌, ℕ, ◌<◌, ◌^◌, length, pos, neg_ℤ, ◌≤ℤ◌, get_or, rules, arith, FitsSigned}
use Rattle.std.proofs.lemmas.Int.{ints, to_z-of_z}
use mir.Syntax.{w128}
use Rattle.sfm_spec.specs.Families.{meanings}
use Rattle.sfm_spec.specs.Walks.{last_of}
use Rattle.sfm_exchange.specs.Hops.{Moves, hop_at, steps_of}
use Rattle.sfm_exchange.proofs.ClaimedGraphs.{are_terms}
use Rattle.sfm_exchange.proofs.Still.{ready}
use Rattle.sfm_stage.proofs.Moving.{ends_apart, high_first, kept_then, low_last, stage_order, stage_serves}
use Rattle.sfm_stage.proofs.stage.advance.Given as given
use Rattle.sfm_stage.proofs.stage.advance.Goals as goal
use Rattle.sfm_stage.proofs.stage.advance.Goals.{In_ok-a}

-- the amount is one that the walk's ends and its steps allow
amount : (g : given.Over) (c : In_ok-a g) → let t = g.T.Term in let kept = c.args.kept.now in
    (pos 1 ≤ℤ c.in_ok-a.a)
    × (c.in_ok-a.a ≤ℤ neg_ℤ (get_or kept.low.items kept.path.first (pos 0)))
    × (c.in_ok-a.a ≤ℤ get_or kept.high.items
    (last_of kept.path.first (steps_of kept.path.hops.items)) (pos 0))
    × (c.in_ok-a.a ≤ℤ pos (10 ^ 20))
    × ((k : ℕ) → k < length kept.path.hops.items
    → Moves (meanings t.places t.value_of c.args.terms.now) (pos 1) c.args.graph.now.bases
    (hop_at kept.path.hops.items k) c.in_ok-a.a)
amount g c =
    let kept = c.args.kept.now in
    let last : c.last-last.result ≡ last_of kept.path.first
    (steps_of kept.path.hops.items) = c.last-last.ensures in
    let a = c.in_ok-a.a in
    let fa : FitsSigned w128 a = search rules in
    let fm : FitsSigned w128 c.most_of-most.result = search rules in
    let o = c.in_ok-a.ensures in
    let m = c.most_of-most.ensures in
    let within : a ≤ℤ c.most_of-most.result = omega (arith, ints, fm, o.within) in
    let by_first = rw c.deref.ensures.value at m.by_first in
    let by_last = rw (c.deref-2.ensures.value, last) at m.by_last in (
      o.some,
      omega (arith, ints, by_first, within),
      omega (arith, ints, by_last, within),
      omega (arith, ints, m.most, within),
      rw c.deref-3.ensures.value at o.moves,
    )

pub amount_of-requires-clause-ready : goal.amount_of-requires-clause-ready
amount_of-requires-clause-ready g c =
    ready c.requires.graph (λ k d l i e lt. let s = c.requires.small k d l i e
    lt in record { low = omega (arith, ints, s.low); high = omega (arith, ints, s.high) })

pub amount_of-requires-clause-movable : goal.amount_of-requires-clause-movable
amount_of-requires-clause-movable g c = rw c.deref-3.ensures.value c.requires.course.movable

pub move_along-requires-clause-small : goal.move_along-requires-clause-small
move_along-requires-clause-small g c =
    rw c.in_ok-a.ensures.still.bases
    (λ k d l i e lt. let s = c.requires.small k d l i e
    lt in record { low = omega (arith, ints, s.low); high = omega (arith, ints, s.high) })

pub move_along-requires-clause-order : goal.move_along-requires-clause-order
move_along-requires-clause-order g c =
    let m = g.met.T.Term in
    let r = c.requires in
    let fa : FitsSigned w128 c.in_ok-a.a = search rules in
    let a = amount g (goal.at.move_along-requires-clause-order g c).In_ok-a in
    simp to_z-of_z (rw c.in_ok-a.ensures.still.bases
    (stage_order r.kept r.course r.order c.in_ok-a.a a.0 a.1 a.2
    (are_terms r.graph m.family m.submodular) r.graph.are_bases a.4))

pub settle-requires-clause-apart : goal.settle-requires-clause-apart
settle-requires-clause-apart g c = ends_apart c.requires.kept c.requires.course c.requires.order

pub settle-requires-clause-low_first : goal.settle-requires-clause-low_first
settle-requires-clause-low_first g c =
    let fa : FitsSigned w128 c.in_ok-a.a = search rules in
    let a = amount g (goal.at.settle-requires-clause-low_first g c).In_ok-a in
    simp to_z-of_z a.1

pub settle-requires-clause-high_first : goal.settle-requires-clause-high_first
settle-requires-clause-high_first g c =
    let r = c.requires in
    let fa : FitsSigned w128 c.in_ok-a.a = search rules in
    let a = amount g (goal.at.settle-requires-clause-high_first g c).In_ok-a in
    simp to_z-of_z (high_first r.kept r.course r.order c.in_ok-a.a a.0 a.1 a.2)

pub settle-requires-clause-low_last : goal.settle-requires-clause-low_last
settle-requires-clause-low_last g c =
    let r = c.requires in
    let fa : FitsSigned w128 c.in_ok-a.a = search rules in
    let a = amount g (goal.at.settle-requires-clause-low_last g c).In_ok-a in
    simp to_z-of_z (low_last r.kept r.course r.order c.in_ok-a.a a.0 a.1 a.2)

pub settle-requires-clause-high_last : goal.settle-requires-clause-high_last
settle-requires-clause-high_last g c =
    let fa : FitsSigned w128 c.in_ok-a.a = search rules in
    let a = amount g (goal.at.settle-requires-clause-high_last g c).In_ok-a in
    simp to_z-of_z a.2

pub returns-clause-kept : goal.returns-clause-kept
returns-clause-kept g c =
    let m = g.met.T.Term in
    let r = c.requires in
    let fa : FitsSigned w128 c.in_ok-a.a = search rules in
    let a = amount g (goal.at.returns-clause-kept g c).In_ok-a in
    let moved = rw c.in_ok-a.ensures.still.bases at
    (simp to_z-of_z at c.in_ok-move_along.ensures.moved) in
    let s = c.settle.ensures in
    kept_then r.kept r.course r.order c.in_ok-a.a a.0 a.1 a.2
    (are_terms r.graph m.family m.submodular) r.graph.are_bases a.4 c.move_along.new.graph.bases
    moved c.settle.new.kept
    (simp to_z-of_z at s.low) (simp to_z-of_z at s.high) s.below s.above

pub returns-clause-serving : goal.returns-clause-serving
returns-clause-serving g c =
    let m = g.met.T.Term in
    let r = c.requires in
    let fa : FitsSigned w128 c.in_ok-a.a = search rules in
    let a = amount g (goal.at.returns-clause-serving g c).In_ok-a in
    let moved = rw c.in_ok-a.ensures.still.bases at
    (simp to_z-of_z at c.in_ok-move_along.ensures.moved) in
    stage_serves r.kept r.course r.order c.in_ok-a.a a.0 a.1 a.2
    (are_terms r.graph m.family m.submodular) r.graph.are_bases a.4 c.move_along.new.graph.bases
    moved a.3
