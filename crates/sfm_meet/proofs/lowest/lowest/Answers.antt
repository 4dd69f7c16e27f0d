use Rattle.std.proofs.Common.{◌≡◌, ◌*◌, ◌^◌, length, replicate, ℤ, pos, ◌≤ℤ◌, rules, refl, ap, arith}
use Rattle.std.specs.List.{All}
use Rattle.std.proofs.lemmas.Int.{ints}
use Rattle.std.proofs.lemmas.List.{length-replicate}
use Rattle.sfm_spec.specs.Sets.{magnitudes}
use Rattle.sfm_spec.specs.Bounds.{IsAtMost, IsFactor}
use Rattle.sfm_exchange.proofs.ClaimedGraphs.{whole_claimed}
use Rattle.sfm_walk.proofs.Spreads.{small_after, spread_in_all}
use Rattle.sfm_walk.proofs.Starting.{sizes_bounded, starts_bounded, starts_plain_bounded, magnitudes_none}
use Rattle.sfm_meet.proofs.lowest.lowest.Goals as goal

one : IsFactor (pos 1)
one = record { low = omega (arith, ints); high = omega (arith, ints) }

pub start_rows-requires-clause-bounded : goal.start_rows-requires-clause-bounded
start_rows-requires-clause-bounded g c =
    let t = g.T.Term in
    let m = g.met.T.Term in
    sizes_bounded t.places t.value_of t.size_of m.submodular m.bounded _ c.args.terms.now c.requires

pub improve-requires-clause-shifts : goal.improve-requires-clause-shifts
improve-requires-clause-shifts g c =
    let same : c.deref.result.now ≡ replicate c.args.n (pos 0) = search rules in
    let none = magnitudes_none c.args.n in
    rw same (omega (arith, ints, none))

pub improve-requires-clause-graph : goal.improve-requires-clause-graph
improve-requires-clause-graph g c =
    let same : c.deref.result.now ≡ replicate c.args.n (pos 0) = search rules in
    rw (same, length-replicate c.args.n (pos 0))
    (whole_claimed (record {
      bounded = c.requires;
      factor = one;
      exact = c.in_ok-graph.ensures.graph;
    }))

pub improve-requires-clause-small : goal.improve-requires-clause-small
improve-requires-clause-small g c =
    let t = g.T.Term in
    let m = g.met.T.Term in
    rw (c.in_ok-graph.ensures.bases, c.in_ok-first_bases.ensures.starts)
    (starts_bounded t.places t.value_of t.size_of m.submodular m.bounded _ c.args.terms.now
    c.requires t.start_of (pos 1) (λ x. m.starts_small x (pos 1)) one)

pub returns-clause-small : goal.returns-clause-small
returns-clause-small g c =
    let t = g.T.Term in
    let m = g.met.T.Term in
    let shift = c.deref.result.now in
    let same : shift ≡ replicate c.args.n (pos 0) = search rules in
    let first = c.in_ok-first_bases.first_bases in
    let after = c.improve.new.graph.bases in
    let small : All (λ x. All (IsAtMost (2 * 10 ^ 18)) x)
    first = rw c.in_ok-first_bases.ensures.starts
    (starts_plain_bounded t.places t.value_of t.size_of m.submodular m.bounded _ c.args.terms.now
    c.requires t.start_of (pos 1) (λ x. m.starts_small x (pos 1)) refl) in
    let none = magnitudes_none c.args.n in
    let shifts : magnitudes shift ≤ℤ pos (10 ^ 24) = rw same (omega (arith, ints, none)) in
    let known = rw c.in_ok-graph.ensures.bases at c.in_ok-z.ensures.improved.spread in
    let spread = spread_in_all t.places t.value_of c.args.terms.now shift first after known in
    rw (c.into_bases.ensures, c.in_ok-members.ensures.bases)
    (small_after t.places t.value_of c.args.terms.now shift first after small c.requires.few_places
    shifts spread)

pub returns-clause-proves : goal.returns-clause-proves
returns-clause-proves g c =
    let same : c.deref.result.now ≡ replicate c.args.n (pos 0) = search rules in
    let proves = rw (same, length-replicate c.args.n (pos 0)) at
    c.in_ok-z.ensures.improved.optimal.proves in
    rw (c.into_bases.ensures, c.in_ok-members.ensures.bases) proves
