use Rattle.std.proofs.Common.{◌≡◌, ◌≤ℤ◌, rules, arith, FitsSigned}
use Rattle.std.proofs.lemmas.Int.{ints, to_z-of_z}
use mir.Syntax.{w128}
use Rattle.sfm_spec.specs.Families.{meanings}
use Rattle.sfm_spec.specs.Walks.{last_of}
use Rattle.sfm_law.proofs.Rests.{rest-small}
use Rattle.sfm_exchange.specs.Hops.{steps_of}
use Rattle.sfm_exchange.specs.Levels.{depth_of}
use Rattle.sfm_walk.specs.Run.{IsGreatest}
use Rattle.sfm_walk.proofs.Augmenting.{amount_small, apart, bounds_still, ends_moved, first_at, in_order, last_at, progress, rest_after, spread}
use Rattle.sfm_exchange.proofs.ClaimedGraphs.{are_terms, low, own}
use Rattle.sfm_exchange.proofs.Following.{depth_bound}
use Rattle.sfm_exchange.proofs.Still.{over_word, ready}
use Rattle.sfm_walk.proofs.advance.advance.Given as given
use Rattle.sfm_walk.proofs.advance.advance.Goals as goal
use Rattle.sfm_walk.proofs.advance.advance.Goals.{In_ok-a}

-- the amount is the greatest that the walk and its ends allow
greatest : (g : given.Over) (c : In_ok-a g) → let t = g.T.Term in let run = c.args.run.now in
    IsGreatest (meanings t.places t.value_of c.args.terms.now) c.args.q c.args.graph.now.bases
    run.z.items run.path.first run.path.hops.items c.in_ok-a.a
greatest g c =
    let fq : FitsSigned w128 c.args.q = c.ranges.q in
    let run = c.args.run.now in
    let hops = run.path.hops.items in
    let last : c.last-last.result ≡ last_of run.path.first (steps_of hops) = c.last-last.ensures in
    let zv = c.deref.ensures.value in
    let a = c.in_ok-a.a in
    let fa : FitsSigned w128 a = search rules in
    let fm : FitsSigned w128 c.most_of-most.result = search rules in
    let o = c.in_ok-a.ensures in
    let m = c.most_of-most.ensures in
    let within : a ≤ℤ c.most_of-most.result = omega (arith, ints, fm, o.within) in
    let at_most = rw (zv, last) at m.greatest in
    let each = rw c.deref-2.ensures.value at (simp to_z-of_z at o.greatest) in
    record {
      some = o.some;
      under = let u = rw zv at m.under in omega (arith, ints, u, within);
      over = let u = rw (zv, last) at m.over in omega (arith, ints, u, within);
      moves = rw c.deref-2.ensures.value at (simp to_z-of_z at o.moves);
      greatest = λ b under over moves. each b (at_most b under over) moves;
    }

pub most_of-most-requires-clause-first : goal.most_of-most-requires-clause-first
most_of-most-requires-clause-first g c =
    let rest = c.requires.running.at.is_rest in
    rw c.deref.ensures.value (first_at c.requires.next.walk rest.places rest)

pub most_of-most-requires-clause-last : goal.most_of-most-requires-clause-last
most_of-most-requires-clause-last g c =
    let rest = c.requires.running.at.is_rest in
    rw (c.deref.ensures.value, c.last-last.ensures) (last_at c.requires.next.walk rest.places rest)

pub most_of-most-requires-clause-under : goal.most_of-most-requires-clause-under
most_of-most-requires-clause-under g c = rw c.deref.ensures.value c.requires.next.walk.course.under

pub most_of-most-requires-clause-over : goal.most_of-most-requires-clause-over
most_of-most-requires-clause-over g c =
    rw (c.deref.ensures.value, c.last-last.ensures) c.requires.next.walk.course.over

pub most_of-most-requires-clause-small : goal.most_of-most-requires-clause-small
most_of-most-requires-clause-small g c =
    let t = g.T.Term in
    let bases = c.args.graph.now.bases in
    let b = c.requires.running.claimed.bounded in
    let shifts = c.requires.shifts in
    rw c.deref.ensures.value (rest-small t.places t.value_of c.args.terms.now c.args._shift.now
    bases c.args.run.now.z.items c.requires.running.at.is_rest c.requires.running.small
    b.few_places (omega (arith, ints, shifts)))

pub amount_of-requires-clause-ready : goal.amount_of-requires-clause-ready
amount_of-requires-clause-ready g c =
    let fq : FitsSigned w128 c.args.q = c.ranges.q in
    let h = c.requires.running in
    simp to_z-of_z (ready h.claimed h.small)

pub amount_of-requires-clause-movable : goal.amount_of-requires-clause-movable
amount_of-requires-clause-movable g c =
    let fq : FitsSigned w128 c.args.q = c.ranges.q in simp to_z-of_z
    (rw c.deref-2.ensures.value c.requires.next.walk.movable)

pub move_along-requires-clause-graph : goal.move_along-requires-clause-graph
move_along-requires-clause-graph g c = own c.in_ok-a.ensures.still.claimed

pub move_along-requires-clause-small : goal.move_along-requires-clause-small
move_along-requires-clause-small g c = rw c.in_ok-a.ensures.still.bases c.requires.small

pub move_along-requires-clause-high : goal.move_along-requires-clause-high
move_along-requires-clause-high g c =
    let fq : FitsSigned w128 c.args.q = c.ranges.q in
    let fa : FitsSigned w128 c.in_ok-a.a = search rules in
    let most = greatest g (goal.at.move_along-requires-clause-high g c).In_ok-a in
    let rest = c.requires.running.at.is_rest in
    simp to_z-of_z (amount_small c.requires.next.walk rest.places rest c.in_ok-a.a most.under
    c.requires.gap)

pub move_along-requires-clause-order : goal.move_along-requires-clause-order
move_along-requires-clause-order g c =
    let m = g.met.T.Term in
    let h = c.requires.running.claimed in
    let rest = c.requires.running.at.is_rest in
    let fq : FitsSigned w128 c.args.q = c.ranges.q in
    let fa : FitsSigned w128 c.in_ok-a.a = search rules in
    let most = greatest g (goal.at.move_along-requires-clause-order g c).In_ok-a in
    simp to_z-of_z (rw c.in_ok-a.ensures.still.bases
    (in_order c.requires.next.walk rest.places rest (low h) (are_terms h m.family m.submodular)
    h.are_bases c.in_ok-a.a most))

pub move_along-requires-clause-falls : goal.move_along-requires-clause-falls
move_along-requires-clause-falls g c =
    (depth_of c.args.run.now.levels.items, c.requires.next.walk.course.falls)

pub settle-requires-clause-few : goal.settle-requires-clause-few
settle-requires-clause-few g c =
    let few = c.requires.running.claimed.bounded.few in rw c.requires.running.at.is_rest.places few

pub settle-requires-clause-first : goal.settle-requires-clause-first
settle-requires-clause-first g c =
    let rest = c.requires.running.at.is_rest in first_at c.requires.next.walk rest.places rest

pub settle-requires-clause-last : goal.settle-requires-clause-last
settle-requires-clause-last g c =
    let rest = c.requires.running.at.is_rest in last_at c.requires.next.walk rest.places rest

pub settle-requires-clause-apart : goal.settle-requires-clause-apart
settle-requires-clause-apart g c =
    let rest = c.requires.running.at.is_rest in apart c.requires.next.walk rest.places rest

pub returns-clause-graph : goal.returns-clause-graph
returns-clause-graph g c = over_word
    (over_word c.requires.running.claimed c.in_ok-a.ensures.still.claimed)
    c.in_ok-move_along.ensures.graph

pub returns-clause-advanced : goal.returns-clause-advanced
returns-clause-advanced g c =
    let m = g.met.T.Term in
    let fq : FitsSigned w128 c.args.q = c.ranges.q in
    let a = c.in_ok-a.a in
    let fa : FitsSigned w128 a = search rules in
    let h = c.requires.running.claimed in
    let w = c.requires.next.walk in
    let rest = c.requires.running.at.is_rest in
    let fit = are_terms h m.family m.submodular in
    let o = c.in_ok-a.ensures in
    let most = greatest g (goal.at.returns-clause-advanced g c).In_ok-a in
    let after = c.move_along.new.graph.bases in
    let moved = rw o.still.bases at (simp to_z-of_z at c.in_ok-move_along.ensures.moved) in
    let z_is = simp to_z-of_z at c.settle.ensures.z in
    let signs = simp to_z-of_z at c.settle.ensures.signs in
    record {
      at = record {
        is_rest = rw z_is (rest_after w rest.places rest (low h) fit h.are_bases a most after
            moved);
        signs = signs (ends_moved w rest.places rest (low h) fit h.are_bases a most)
            c.requires.running.at.signs;
      };
      progress = progress w rest.places rest (low h) fit h.are_bases a most after moved;
      spread = spread w rest.places rest (low h) fit h.are_bases a most after moved;
    }

pub move_along-requires-clause-low : goal.move_along-requires-clause-low
move_along-requires-clause-low g c =
    let fa : FitsSigned w128 c.in_ok-a.a = search rules in
    simp to_z-of_z c.in_ok-a.ensures.some

pub move_along-requires-clause-named : goal.move_along-requires-clause-named
move_along-requires-clause-named g c = c.requires.next.walk.named

pub settle-requires-clause-low : goal.settle-requires-clause-low
settle-requires-clause-low g c = let some = c.in_ok-a.ensures.some in omega (arith, ints, some)

pub settle-requires-clause-under : goal.settle-requires-clause-under
settle-requires-clause-under g c =
    let fa : FitsSigned w128 c.in_ok-a.a = search rules in
    simp to_z-of_z (greatest g (goal.at.settle-requires-clause-under g c).In_ok-a).under

pub settle-requires-clause-over : goal.settle-requires-clause-over
settle-requires-clause-over g c =
    let fa : FitsSigned w128 c.in_ok-a.a = search rules in
    simp to_z-of_z (greatest g (goal.at.settle-requires-clause-over g c).In_ok-a).over

pub returns-clause-labels : goal.returns-clause-labels
returns-clause-labels g c =
    let m = g.met.T.Term in
    let fq : FitsSigned w128 c.args.q = c.ranges.q in
    let fa : FitsSigned w128 c.in_ok-a.a = search rules in
    let h = c.requires.running.claimed in
    let rest = c.requires.running.at.is_rest in
    let most = greatest g (goal.at.returns-clause-labels g c).In_ok-a in
    let labels = c.requires.next.labels in
    let moved = rw c.in_ok-a.ensures.still.bases at
    (simp to_z-of_z at c.in_ok-move_along.ensures.moved) in
    let bounds = bounds_still c.requires.next.walk rest.places rest (low h)
    (are_terms h m.family m.submodular) h.are_bases c.in_ok-a.a most
    (λ e. let b = depth_bound c.args.run.now.levels.items
    e in let f = labels.few in omega (arith, b, f)) c.move_along.new.graph.bases moved in
    rw c.settle.ensures.levels (record {
      parted = labels.parted;
      few = labels.few;
      no_faster = bounds.falls;
      ends = bounds.lasts;
    })
