use Rattle.std.proofs.Common.{◌≡◌, ◌+◌, ◌-◌, ◌<◌, [], ◌∷◌, length, refl, sym, ap, ◌∙◌, arith}
use Rattle.std.proofs.lemmas.List.{length-append, get_or_default}
use Rattle.sfm_spec.specs.Families.{meanings}
use Rattle.sfm_spec.specs.Walks.{Step, last_of}
use Rattle.sfm_spec.proofs.Walks.{last-push}
use Rattle.sfm_reach.specs.Bits.{bit_in, blank_bits, set_at}
use Rattle.sfm_exchange.specs.Levels.{depth_of}
use Rattle.sfm_exchange.specs.Hops.{steps_of, step_of}
use Rattle.sfm_exchange.proofs.Following.{depth_has, depth_is, falls_push, hops_push, least_push, steps_of-push}
use Rattle.sfm_exchange.proofs.path.descend.Goals as goal

pub least_step-hop-requires-clause-leads : goal.least_step-hop-requires-clause-leads
least_step-hop-requires-clause-leads g c =
    let inv = c.loop-k.invariant in
    let unions = c.args.graph.now.unions.items in
    let read : set_at unions c.loop-k.at ≡ c.index.result.now = get_or_default unions c.loop-k.at
    blank_bits c.index.result.now (c.requires.parted.below c.loop-k.k c.loop-k.at inv.0 inv.1)
    ∙ sym c.index.ensures in
    rw (c.deref-in-loop-k-2.ensures.value, read) (c.meets.ensures.0 c.if-not-meets.false)

pub loop-k-preserved : goal.loop-k-preserved
loop-k-preserved g c =
    let t = g.T.Term in
    let ts = meanings t.places t.value_of c.args.terms.now in
    let levels = c.args.levels.now in
    let first = c.args.first in
    let hops = c.loop-k.hops.items in
    let hop = c.least_step-hop.result in
    let k = c.loop-k.k in
    let inv = c.loop-k.invariant in
    let positive : 0 < k = omega (arith, c.loop-k-test.true) in
    let lk : k - 1 < length levels = omega (arith, inv.0) in
    let apart = c.requires.parted.apart in
    let onto : bit_in (set_at levels (k - 1)) hop.to ≡ 1 = c.least_step-hop.ensures.onto in
    let d_at : depth_of levels c.loop-k.at ≡ k = depth_is levels apart k c.loop-k.at inv.0 inv.1 in
    let d_to : depth_of levels hop.to ≡ k - 1 = depth_is levels apart (k - 1) hop.to lk onto in
    let at_last = inv.2 in
    let d_last : depth_of levels (last_of first (steps_of hops)) ≡ depth_of levels
    hop.to + 1 = ap (λ e. depth_of levels e) (sym at_last)
    ∙ (omega (arith, d_at, d_to, positive)) in
    let named = rw at_last at c.least_step-hop.ensures.named in
    let more = hops_push ts c.args.graph.now.rows.items first hops hop inv.3 named
    (rw c.deref-in-loop-k.ensures.value at c.least_step-hop.ensures.reached) in
    let falls = falls_push (depth_of levels) first (steps_of hops) (step_of hop) inv.4 d_last in
    let into : (other : Step) → depth_of levels (last_of first (steps_of hops)) ≡ depth_of levels
    other.to + 1 → bit_in (set_at levels (k - 1)) other.to ≡ 1 = λ other f.
    let d : depth_of levels other.to ≡ k - 1 = omega (arith, f, d_last, d_to) in
    rw d at (depth_has levels other.to (omega (arith, d, lk))) in
    let least = least_push ts c.args.graph.now.rows.items (depth_of levels) first hops hop inv.6
    (λ other told f. rw (at_last, c.deref-in-loop-k.ensures.value) at
    c.least_step-hop.ensures.least other told (into other f)) in
    let same = steps_of-push hops hop in
    let count = length-append hops (hop ∷ []) in
    rw c.in_ok-push.ensures.items (
      lk,
      onto,
      (sym (last-push first (steps_of hops) (step_of hop))
          ∙ ap (λ s. last_of first s) (sym same)),
      more,
      rw same falls,
      omega (arith, count, inv.5, positive),
      least,
    )

pub loop-k-init : goal.loop-k-init
loop-k-init g c =
    let some = c.requires.first.some in
    let k = length c.args.levels.now - 1 in
    rw c.clear.ensures.items (
      omega (arith, some),
      c.requires.first.last k (omega (arith, some)),
      refl,
      tt,
      tt,
      omega (arith, some),
      tt,
    )

pub least_step-hop-requires-clause-spots : goal.least_step-hop-requires-clause-spots
least_step-hop-requires-clause-spots g c =
    rw (c.deref.ensures.value, c.deref-in-loop-k-2.ensures.value) c.requires.spots

pub least_step-hop-requires-clause-rows : goal.least_step-hop-requires-clause-rows
least_step-hop-requires-clause-rows g c =
    rw (c.deref.ensures.value, c.deref-in-loop-k.ensures.value) c.requires.rows

pub least_step-hop-requires-clause-unions : goal.least_step-hop-requires-clause-unions
least_step-hop-requires-clause-unions g c =
    rw (c.deref.ensures.value, c.deref-in-loop-k.ensures.value, c.deref-in-loop-k-2.ensures.value)
    c.requires.unions

pub least_step-hop-requires-clause-placed : goal.least_step-hop-requires-clause-placed
least_step-hop-requires-clause-placed g c = rw c.deref-in-loop-k.ensures.value c.requires.placed

pub least_step-hop-requires-clause-at : goal.least_step-hop-requires-clause-at
least_step-hop-requires-clause-at g c =
    let inv = c.loop-k.invariant in
    rw c.deref-in-loop-k-2.ensures.value
    (c.requires.parted.below c.loop-k.k c.loop-k.at inv.0 inv.1)

pub returns-clause-hops : goal.returns-clause-hops
returns-clause-hops g c = c.loop-k.invariant.3

pub returns-clause-falls : goal.returns-clause-falls
returns-clause-falls g c = c.loop-k.invariant.4

pub returns-clause-least : goal.returns-clause-least
returns-clause-least g c = c.loop-k.invariant.6
