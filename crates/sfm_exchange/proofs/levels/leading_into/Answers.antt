use Rattle.sfm_reach.proofs.Picking.{picking_shrinks}
use Rattle.sfm_reach.proofs.Options.{match_none}
use Rattle.sfm_exchange.proofs.Leading.{joining_begun, joining_more}
use Rattle.sfm_exchange.proofs.levels.leading_into.Goals as goal

pub loop-t-init : goal.loop-t-init
loop-t-init c = joining_begun c.args.back.now c.args.level.now c.of-ahead.result
    c.no_bits-leading.result c.of-ahead.ensures c.no_bits-leading.ensures

pub loop-t-smaller : goal.loop-t-smaller
loop-t-smaller c = picking_shrinks c.loop-t.ahead c.next.new.self c.in-Some.t c.in-Some.ensures

pub loop-t-preserved : goal.loop-t-preserved
loop-t-preserved c =
    joining_more c.args.back.now c.args.level.now c.loop-t.ahead c.next.new.self c.loop-t.leading
    c.union_with.new.self c.in-Some.t c.loop-t.invariant c.in-Some.ensures c.union_with.ensures

pub returns : goal.returns
returns c = λ e. (
  c.loop-t.invariant.from e,
  (λ (t, l, bit, one). c.loop-t.invariant.to e t l one
      (match_none c.next.result _ _ c.next.ensures c.in_default.not-Some t) bit),
)
