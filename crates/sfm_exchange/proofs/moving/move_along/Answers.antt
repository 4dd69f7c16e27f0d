use Rattle.std.proofs.Common.{◌≡◌, ◌-◌, ◌*◌, ◌^◌, suc, List, ℤ, length, get_or, subst, ◌∙◌, arith, FitsSigned}
use Rattle.std.specs.List.{All}
use Rattle.std.proofs.lemmas.Int.{ints, to_z-of_z}
use Rattle.std.proofs.lemmas.List.{get_or_default}
use Rattle.std.proofs.lemmas.List.Elements.{All-set}
use mir.Syntax.{w128}
use Rattle.sfm_spec.specs.Bounds.{IsAtMost, IsEntry}
use Rattle.sfm_spec.specs.Families.{meanings}
use Rattle.sfm_exchange.specs.declared.path.Hop.{Hop}
use Rattle.sfm_exchange.specs.Hops.{CanExchange, hop_at, no_hop}
use Rattle.sfm_exchange.proofs.Exchanging.{HaveMoved, can_exchange, exchange_moved, have_moved_none}
use Rattle.sfm_exchange.proofs.ClaimedGraphs.{are_terms, counted, over, own}
use Rattle.sfm_exchange.proofs.moving.move_along.Given as given
use Rattle.sfm_exchange.proofs.moving.move_along.Goals as goal
use Rattle.sfm_exchange.proofs.moving.move_along.Goals.{In-loop-k}

-- the steps behind the one that is next have moved
behind : (g : given.Over) (c : In-loop-k g) → let t = g.T.Term in
    HaveMoved (meanings t.places t.value_of c.args.terms.now) c.args.q c.args.graph.now.bases
    c.args.path.now.first c.args.path.now.hops.items c.args.a (suc (c.loop-k.k - 1))
    c.loop-k.graph.bases
behind g c =
    let t = g.T.Term in
    let fq : FitsSigned w128 c.args.q = c.ranges.q in
    let fa : FitsSigned w128 c.args.a = c.ranges.a in
    let inv = simp to_z-of_z at c.loop-k.invariant in
    let back : c.loop-k.k ≡ suc (c.loop-k.k - 1) = omega (arith, c.loop-k-test.true) in
    subst (λ k. HaveMoved (meanings t.places t.value_of c.args.terms.now) c.args.q
    c.args.graph.now.bases c.args.path.now.first c.args.path.now.hops.items c.args.a k
    c.loop-k.graph.bases) back inv.0

-- which is this one
next : (g : given.Over) (c : In-loop-k g) (shown : Hop)
    → shown ≡ get_or c.args.path.now.hops.items (c.loop-k.k - 1) shown
    → shown ≡ hop_at c.args.path.now.hops.items (c.loop-k.k - 1)
next g c shown e = let few = (behind g c).few in e
    ∙ get_or_default c.args.path.now.hops.items (c.loop-k.k - 1) shown no_hop (omega (arith, few))

-- and it can move
can : (g : given.Over) (c : In-loop-k g)
    → let t = g.T.Term in CanExchange (meanings t.places t.value_of c.args.terms.now) c.args.q
    c.loop-k.graph.bases (hop_at c.args.path.now.hops.items (c.loop-k.k - 1)) c.args.a
can g c =
    let m = g.met.T.Term in
    let r = c.requires in
    can_exchange _ _ _ (are_terms r.graph m.family m.submodular) _ _ _ _ r.low r.named r.order
    r.falls.0 r.falls.1 r.small r.high r.graph.are_bases (c.loop-k.k - 1) c.loop-k.graph.bases
    (behind g c)

-- entries are small at first
small : (rows : List (List ℤ)) → All (λ x. All (IsAtMost (5 * 10 ^ 29)) x) rows
    → All (λ x. All IsEntry x) rows
small rows h k d l i e lt = let s = h k d l i e
    lt in record { low = omega (arith, ints, s.low); high = omega (arith, ints, s.high) }

pub loop-k-init : goal.loop-k-init
loop-k-init g c =
    let hops = c.args.path.now.hops.items in
    let count : c.len-k.result ≡ length
    hops = omega (arith, c.len-k.ensures, c.args.path.now.hops.ok.0) in
    let r = c.requires in
    let m = g.met.T.Term in
    let fq : FitsSigned w128 c.args.q = c.ranges.q in
    let fa : FitsSigned w128 c.args.a = c.ranges.a in
    rw count (simp to_z-of_z (
      have_moved_none _ _ _ (are_terms r.graph m.family m.submodular) _ _
          hops _ r.low r.named r.order r.graph.are_bases,
      r.graph,
      small c.args.graph.now.bases r.small,
    ))

pub exchange_at-requires-clause-graph : goal.exchange_at-requires-clause-graph
exchange_at-requires-clause-graph g c = own c.loop-k.invariant.1

pub exchange_at-requires-clause-small : goal.exchange_at-requires-clause-small
exchange_at-requires-clause-small g c = c.loop-k.invariant.2

pub exchange_at-requires-clause-inside : goal.exchange_at-requires-clause-inside
exchange_at-requires-clause-inside g c =
    let at = (goal.at.exchange_at-requires-clause-inside g c).In-loop-k in
    rw (next g at c.index.result.now c.index.ensures, ← counted c.requires.graph) (can g at).term_in

pub exchange_at-requires-clause-can : goal.exchange_at-requires-clause-can
exchange_at-requires-clause-can g c =
    let fq : FitsSigned w128 c.args.q = c.ranges.q in
    let fa : FitsSigned w128 c.args.a = c.ranges.a in
    let at = (goal.at.exchange_at-requires-clause-can g c).In-loop-k in
    rw (next g at c.index.result.now c.index.ensures) (simp to_z-of_z (can g at))

pub loop-k-preserved : goal.loop-k-preserved
loop-k-preserved g c =
    let m = g.met.T.Term in
    let fq : FitsSigned w128 c.args.q = c.ranges.q in
    let fa : FitsSigned w128 c.args.a = c.ranges.a in
    let here = (goal.at.loop-k-preserved g c).In-loop-k in
    let inv = simp to_z-of_z at c.loop-k.invariant in
    let r = c.requires in
    let e = c.in_ok-exchange_at.ensures in
    let moved = rw (next g here c.index.result.now c.index.ensures) at
    (simp to_z-of_z at e.moved) in
    let more = exchange_moved _ _ _ (are_terms r.graph m.family m.submodular) _ _ _ _ r.low r.named
    r.order r.graph.are_bases (c.loop-k.k - 1) c.loop-k.graph.bases (behind g here) in
    simp to_z-of_z (
      rw moved more,
      over inv.1 (simp to_z-of_z at e.graph),
      rw moved (All-set (λ x. All IsEntry x) _ _ _ (can g here).after inv.2),
    )

pub returns-clause-graph : goal.returns-clause-graph
returns-clause-graph g c = let fq : FitsSigned w128 c.args.q = c.ranges.q in simp to_z-of_z at
    c.loop-k.invariant.1
