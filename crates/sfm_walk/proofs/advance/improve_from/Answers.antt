use Rattle.std.proofs.Common.{◌*◌, ◌^◌, length, ℤ, ◌-ℤ◌, ◌+ℤ◌, arith, FitsSigned}
use Rattle.std.specs.List.{All}
use Rattle.std.proofs.lemmas.Int.{ints, to_z-of_z}
use Rattle.std.proofs.lemmas.List.{length-map}
use mir.Syntax.{w128}
use Rattle.sfm_spec.specs.Bounds.{IsEntry}
use Rattle.sfm_spec.specs.Families.{meanings, rest_at, deficit}
use Rattle.sfm_spec.proofs.LeastWalks.{few_walks_small}
use Rattle.sfm_spec.proofs.Proving.{prove_if_none}
use Rattle.sfm_walk.proofs.Counting.{IsCounting, counting_none, counting_more, counting_few, counting_is}
use Rattle.sfm_walk.proofs.Labelling.{labels_none}
use Rattle.sfm_walk.proofs.Improving.{IsImproving, falls, gap_still, improving_after, small_still}
use Rattle.sfm_walk.proofs.Resting.{rest_is}
use Rattle.sfm_walk.proofs.Spreads.{bound_is}
use Rattle.sfm_law.specs.Rest.{IsRest}
use Rattle.sfm_exchange.proofs.ClaimedGraphs.{are_terms, counted, low}
use Rattle.sfm_exchange.proofs.Summing.{sums_small}
use Rattle.sfm_walk.proofs.advance.improve_from.Goals as goal

pub run_at-run-requires : goal.run_at-run-requires
run_at-run-requires g c =
    let r = c.requires in
    let few = r.graph.bounded.few in
    rw c.in_ok-z.ensures.places few

pub loop-run-init : goal.loop-run-init
loop-run-init g c =
    let t = g.T.Term in
    let fq : FitsSigned w128 c.args.q = c.ranges.q in
    let ts = meanings t.places t.value_of c.args.terms.now in
    let shift = c.args.shift.now in
    let r = c.requires in
    let init = c.args.graph.now.bases in
    let D : ℤ = deficit (length shift) (rest_at ts init shift) in
    let z_is = c.run_at-run.ensures.z in
    let z = c.in_ok-z.ensures in
    let is_rest : IsRest ts shift init c.in_ok-z.z.items = rest_is r.graph.are_sums z.places
    (rw c.deref.ensures.value at z.exact) in
    let start : IsImproving t c.args.terms.now c.args.q shift init c.args.graph.now
    c.run_at-run.result = record {
      whole = r.graph;
      at = record { is_rest = rw z_is is_rest; signs = rw z_is c.run_at-run.ensures.signs };
      gap = r.gap;
      risen = omega (arith, ints);
      spread = λ b small. bound_is init b (b +ℤ (D -ℤ D)) small (omega (arith, ints));
    } in
    simp to_z-of_z (
      start,
      omega arith,
      counting_none ts (length shift) c.args.q shift init c.args.steps.now,
      omega arith,
      rw c.run_at-run.ensures.levels (labels_none ts (length shift) c.args.q shift init),
    )

pub next_walk-requires-clause-running : goal.next_walk-requires-clause-running
next_walk-requires-clause-running g c =
    let fq : FitsSigned w128 c.args.q = c.ranges.q in
    let h = simp to_z-of_z at c.loop-run.invariant.0 in
    simp to_z-of_z
    (record {
      claimed = h.whole;
      small = small_still h c.requires.small (10 ^ 30) (omega arith);
      at = h.at;
    })

pub advance-requires-clause-running : goal.advance-requires-clause-running
advance-requires-clause-running g c =
    let fq : FitsSigned w128 c.args.q = c.ranges.q in c.in_ok-next_walk.ensures.running

pub advance-requires-clause-next : goal.advance-requires-clause-next
advance-requires-clause-next g c =
    let fq : FitsSigned w128 c.args.q = c.ranges.q in c.in_ok-next_walk.ensures.next
    c.if-branch.true

pub advance-requires-clause-small : goal.advance-requires-clause-small
advance-requires-clause-small g c =
    rw c.in_ok-next_walk.ensures.bases
    (small_still c.loop-run.invariant.0 c.requires.small (5 * 10 ^ 29) (omega arith))

pub advance-requires-clause-gap : goal.advance-requires-clause-gap
advance-requires-clause-gap g c =
    rw c.in_ok-next_walk.ensures.bases (gap_still c.loop-run.invariant.0)

pub loop-run-smaller : goal.loop-run-smaller
loop-run-smaller g c =
    let m = g.met.T.Term in
    let fq : FitsSigned w128 c.args.q = c.ranges.q in
    let inv = simp to_z-of_z at c.loop-run.invariant.0 in
    let advanced = rw c.in_ok-next_walk.ensures.bases at
    (simp to_z-of_z at c.in_ok-advance.ensures.advanced) in
    falls inv m.family m.submodular c.advance.new.graph c.advance.new.run advanced

pub loop-run-preserved : goal.loop-run-preserved
loop-run-preserved g c =
    let t = g.T.Term in
    let m = g.met.T.Term in
    let fq : FitsSigned w128 c.args.q = c.ranges.q in
    let ts = meanings t.places t.value_of c.args.terms.now in
    let n = length c.args.shift.now in
    let shift = c.args.shift.now in
    let init = c.args.graph.now.bases in
    let inv = simp to_z-of_z at c.loop-run.invariant in
    let e = c.in_ok-advance.ensures in
    let advanced = rw c.in_ok-next_walk.ensures.bases at (simp to_z-of_z at e.advanced) in
    let after = c.advance.new.graph.bases in
    let next = improving_after inv.0 m.family m.submodular c.advance.new.graph c.advance.new.run
    advanced (simp to_z-of_z at e.graph) in
    let counting : IsCounting ts n c.args.q shift init after c.args.steps.now
    c.tick.new.self = counting_more ts n c.args.q shift init c.loop-run.graph.bases after
    c.args.steps.now c.loop-run.steps c.tick.new.self inv.2 advanced.progress c.tick.ensures in
    simp to_z-of_z (
      next,
      omega (arith, c.loop-run.invariant.1, c.tick.ensures),
      counting,
      counting_few ts n (length c.args.terms.now) c.args.q shift init after c.args.steps.now
          c.tick.new.self (counted c.requires.graph) counting,
      simp to_z-of_z at e.labels,
    )

pub tick-requires : goal.tick-requires
tick-requires g c =
    let few = few_walks_small (length c.args.shift.now) (length c.args.terms.now)
    c.requires.graph.bounded.few (rw length-map at c.requires.graph.bounded.few_terms) in
    omega (arith, few, c.requires.room, c.loop-run.invariant.3)

pub returns-clause-improved : goal.returns-clause-improved
returns-clause-improved g c =
    let t = g.T.Term in
    let m = g.met.T.Term in
    let ts = meanings t.places t.value_of c.args.terms.now in
    let shift = c.args.shift.now in
    let fq : FitsSigned w128 c.args.q = c.ranges.q in
    let run = simp to_z-of_z at c.in_ok-next_walk.ensures.running in
    let h = run.claimed in
    let none = simp to_z-of_z at (c.in_ok-next_walk.ensures.ends c.if-branch.false) in
    record {
      graph = h;
      optimal = record {
        bases = h.are_bases;
        small = run.small;
        ends = none;
        proves = prove_if_none ts c.next_walk.new.graph.bases (length shift) c.args.q shift (low h)
            (are_terms h m.family m.submodular) h.are_bases none;
      };
      rest = rw c.from_vec.ensures run.at.is_rest;
      counted = rw c.in_ok-next_walk.ensures.bases
          (counting_is ts (length shift) c.args.q shift c.args.graph.now.bases
          c.loop-run.graph.bases c.args.steps.now c.loop-run.steps
          (simp to_z-of_z at c.loop-run.invariant.2));
      spread = rw c.in_ok-next_walk.ensures.bases c.loop-run.invariant.0.spread;
    }

pub advance-requires-clause-shifts : goal.advance-requires-clause-shifts
advance-requires-clause-shifts g c = c.requires.shifts

pub returns-clause-few : goal.returns-clause-few
returns-clause-few g c = c.loop-run.invariant.3

pub returns-clause-kept : goal.returns-clause-kept
returns-clause-kept g c = c.loop-run.invariant.1

pub returns-in_err-next_walk-clause-few : goal.returns-in_err-next_walk-clause-few
returns-in_err-next_walk-clause-few g c = c.loop-run.invariant.3

pub returns-in_err-advance-clause-few : goal.returns-in_err-advance-clause-few
returns-in_err-advance-clause-few g c = c.loop-run.invariant.3

pub returns-in_err-z-clause-few : goal.returns-in_err-z-clause-few
returns-in_err-z-clause-few g c = omega arith

pub returns-in_err-next_walk-clause-kept : goal.returns-in_err-next_walk-clause-kept
returns-in_err-next_walk-clause-kept g c = c.loop-run.invariant.1

pub returns-in_err-advance-clause-kept : goal.returns-in_err-advance-clause-kept
returns-in_err-advance-clause-kept g c = c.loop-run.invariant.1

pub next_walk-requires-clause-labels : goal.next_walk-requires-clause-labels
next_walk-requires-clause-labels g c =
    let fq : FitsSigned w128 c.args.q = c.ranges.q in c.loop-run.invariant.4

pub rest_from-requires-clause-same : goal.rest_from-requires-clause-same
rest_from-requires-clause-same g c = rw c.deref.ensures.value c.requires.graph.are_sums.places

pub rest_from-requires-clause-small : goal.rest_from-requires-clause-small
rest_from-requires-clause-small g c =
    let t = g.T.Term in
    let h = c.requires.graph in
    let small : All (λ x. All IsEntry x) c.args.graph.now.bases = λ k d l i e lt.
    let s = c.requires.small k d l i e
    lt in record { low = omega (arith, ints, s.low); high = omega (arith, ints, s.high) } in
    rw c.deref.ensures.value (sums_small t.places t.value_of c.args.terms.now
    (length c.args.shift.now) c.args.graph.now.bases c.args.graph.now.sums.items h.are_sums
    small h.bounded.few_places)

pub rest_from-requires-clause-shifts : goal.rest_from-requires-clause-shifts
rest_from-requires-clause-shifts g c = let shifts = c.requires.shifts in omega (arith, ints, shifts)
