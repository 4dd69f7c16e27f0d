use Rattle.std.proofs.Common.{ap, length, arith}
use Rattle.std.specs.Fmt.{decimal}
use Rattle.std.proofs.lemmas.List.{length-append}
use Rattle.sfm_readback.proofs.Needs.{needs_begin, needs_end, needs_more, needs_none, not_empty, is_empty_nil}
use Rattle.sfm_readback.proofs.numbers.needs_of.Goals as goal

pub loop-rest-init : goal.loop-rest-init
loop-rest-init c = rw c.new-needs.ensures.items (needs_begin c.args.most c.args.bytes.now)

pub returns-in_default : goal.returns-in_default
returns-in_default c =
    needs_none c.args.most c.args.bytes.now c.loop-rest.needs.items c.loop-rest.last
    c.loop-rest.rest.now c.loop-rest.invariant
    (not_empty _ _ c.is_empty.ensures c.loop-rest-test.true) c.in_default.ensures

pub loop-rest-preserved : goal.loop-rest-preserved
loop-rest-preserved c =
    let r = c.in-Some.ensures in
    rw c.in_ok-push.ensures.items
    (needs_more c.args.most c.args.bytes.now c.loop-rest.needs.items c.loop-rest.last c.in-Some.need
    c.loop-rest.rest.now c.in-Some.more.now (omega (arith, c.ranges.most)) c.loop-rest.invariant
    r.0 r.1 r.2 r.3)

pub loop-rest-smaller : goal.loop-rest-smaller
loop-rest-smaller c = let behind = ap length
    c.in-Some.ensures.3 in omega (
      arith,
      behind,
      length-append (decimal c.in-Some.need) c.in-Some.more.now,
    )

pub returns : goal.returns
returns c = needs_end c.args.most c.args.bytes.now c.loop-rest.needs.items c.loop-rest.last
    c.loop-rest.rest.now c.loop-rest.invariant
    (is_empty_nil _ _ c.is_empty.ensures c.loop-rest-test.false)
