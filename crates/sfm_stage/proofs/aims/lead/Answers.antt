use Rattle.std.proofs.Common.{◌≡◌, ◌+◌, ◌-◌, ◌<◌, [], ◌∷◌, length, sym, ap, ◌∙◌, arith}
use Rattle.std.proofs.lemmas.List.{length-append}
use Rattle.sfm_spec.specs.Families.{meanings}
use Rattle.sfm_spec.specs.Walks.{last_of}
use Rattle.sfm_spec.proofs.Walks.{last-push}
use Rattle.sfm_reach.specs.Bits.{bit_in, set_at}
use Rattle.sfm_exchange.specs.Levels.{depth_of}
use Rattle.sfm_exchange.specs.Hops.{steps_of, step_of}
use Rattle.sfm_exchange.proofs.Following.{depth_is, falls_push, hops_push, steps_of-push}
use Rattle.sfm_stage.proofs.aims.lead.Goals as goal

pub loop-k-preserved : goal.loop-k-preserved
loop-k-preserved g c =
    let t = g.T.Term in
    let ts = meanings t.places t.value_of c.args.terms.now in
    let levels = c.args.levels.now in
    let first = c.args.first in
    let hops = c.loop-k.hops.items in
    let hop = c.in-Some.hop in
    let into = c.in-Some.ensures in
    let k = c.loop-k.k in
    let inv = c.loop-k.invariant in
    let apart = c.requires.spots.1.apart in
    let aims = c.requires.aims.1 in
    let positive : 0 < k = omega (arith, c.loop-k-test.true) in
    let lk : k - 1 < length levels = omega (arith, inv.0) in
    let la : k - 1 < length c.args.aims.now = omega (arith, lk, aims.count) in
    let onto : bit_in (set_at c.args.aims.now (k - 1)) hop.to ≡ 1 = into.onto in
    let in_level : bit_in (set_at levels (k - 1)) hop.to ≡ 1 = aims.within (k - 1) hop.to la onto in
    let d_at : depth_of levels c.loop-k.at ≡ k = depth_is levels apart k c.loop-k.at inv.0 inv.1 in
    let d_to : depth_of levels hop.to ≡ k - 1 = depth_is levels apart (k - 1) hop.to lk in_level in
    let at_last = inv.2 in
    let d_last : depth_of levels (last_of first (steps_of hops)) ≡ depth_of levels
    hop.to + 1 = ap (λ e. depth_of levels e) (sym at_last)
    ∙ (omega (arith, d_at, d_to, positive)) in
    let named = rw at_last at into.named in
    let more = hops_push ts c.args.graph.now.rows.items first hops hop inv.3 named into.told in
    let falls = falls_push (depth_of levels) first (steps_of hops) (step_of hop) inv.4 d_last in
    let same = steps_of-push hops hop in
    let count = length-append hops (hop ∷ []) in
    rw c.in_ok-push.ensures.items (
      lk,
      in_level,
      (sym (last-push first (steps_of hops) (step_of hop))
          ∙ ap (λ s. last_of first s) (sym same)),
      more,
      rw same falls,
      omega (arith, count, inv.5, positive),
      λ _. onto,
    )
