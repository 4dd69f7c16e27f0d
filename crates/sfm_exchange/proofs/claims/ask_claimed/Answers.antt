use Rattle.std.proofs.Common.{◌≡◌, ◌+◌, ◌<◌, ⊎_elim, ℕ, refl, subst, ◌∙◌, arith, FitsSigned}
use Rattle.std.proofs.lemmas.Bool.{cases_lt}
use Rattle.std.proofs.lemmas.Int.{to_z-of_z}
use mir.Syntax.{w128}
use Rattle.sfm_reach.specs.Bits.{set_at}
use Rattle.sfm_exchange.specs.Claimed.{IsSettled}
use Rattle.sfm_exchange.proofs.Asked.{bit_back}
use Rattle.sfm_exchange.proofs.ClaimedGraphs.{whole_settled}
use Rattle.sfm_exchange.proofs.Still.{still_begun, still_ready, still_then}
use Rattle.sfm_exchange.proofs.claims.ask_claimed.Goals as goal

pub loop-e-init : goal.loop-e-init
loop-e-init g c =
    let fq : FitsSigned w128 c.args.q = c.ranges.q in
    simp to_z-of_z (
      still_begun c.requires.ready.claimed,
      refl,
      (λ d l. absurd (omega (arith, l))),
      (λ j t one. c.claimed_places-claimed.ensures j t (rw c.deref.ensures.value one)),
    )

pub settle_place-requires-clause-ready : goal.settle_place-requires-clause-ready
settle_place-requires-clause-ready g c = still_ready c.loop-e.invariant.0 c.requires.ready.small

pub settle_place-requires-clause-place : goal.settle_place-requires-clause-place
settle_place-requires-clause-place g c =
    let same = c.loop-e.invariant.1 in
    let end = c.len-e-end.ensures in
    rw same (omega (arith, end, c.loop-e-test.true))

pub settle_place-requires-clause-claimed : goal.settle_place-requires-clause-claimed
settle_place-requires-clause-claimed g c = c.loop-e.invariant.3

pub loop-e-preserved : goal.loop-e-preserved
loop-e-preserved g c =
    let fq : FitsSigned w128 c.args.q = c.ranges.q in
    let inv = simp to_z-of_z at c.loop-e.invariant in
    let o = c.in_ok-settle_place.ensures in
    let before = c.loop-e.graph.claimed.items in
    let after = c.settle_place.new.graph.claimed.items in
    let spots = c.args.graph.now.spots.items in
    let here : IsSettled spots after c.loop-e.e = rw inv.1 at o.settled in
    let each : (d : ℕ) → d < c.loop-e.e + 1 → IsSettled spots after d = λ d l. ⊎_elim
    (λ less. λ k lk. o.kept _ d (inv.2 d less k lk))
    (λ ge. let same : c.loop-e.e ≡ d = omega (arith, ge, l) in subst (IsSettled spots after) same
    here)
    (cases_lt d c.loop-e.e) in
    simp to_z-of_z (
      still_then inv.0 (simp to_z-of_z at o.still),
      o.spots ∙ inv.1,
      each,
      (λ j t one. inv.3 j t (bit_back (set_at before j) (set_at after j) t (o.kept j t) one)),
    )

pub returns-clause-graph : goal.returns-clause-graph
returns-clause-graph g c =
    let fq : FitsSigned w128 c.args.q = c.ranges.q in
    let inv = simp to_z-of_z at c.loop-e.invariant in
    let end = c.len-e-end.ensures in
    whole_settled inv.0.claimed c.args.graph.now.spots.items c.requires.ready.claimed.are_spots
    (λ d l. inv.2 d (omega (arith, l, end, c.loop-e-test.false)))

pub returns-clause-bases : goal.returns-clause-bases
returns-clause-bases g c = c.loop-e.invariant.0.bases
