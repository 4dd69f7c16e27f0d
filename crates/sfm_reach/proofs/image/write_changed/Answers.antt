use Rattle.sfm_reach.proofs.Imaging.{writing_begun, writing_more, writing_done}
use Rattle.sfm_reach.proofs.Picking.{picking_shrinks}
use Rattle.sfm_reach.proofs.image.write_changed.Goals as goal

pub loop-v-init : goal.loop-v-init
loop-v-init c =
    let (part, image, same) = c.requires.before in (
      part,
      writing_begun c.args.places.now part c.args.next.now c.args.changed.now c.of-ahead.result
          c.args.bits.now c.requires.inside image same c.of-ahead.ensures,
    )

pub loop-v-smaller : goal.loop-v-smaller
loop-v-smaller c = picking_shrinks c.loop-v.ahead c.next.new.self c.in-Some.v c.in-Some.ensures

pub loop-v-preserved : goal.loop-v-preserved
loop-v-preserved c =
    let (part, writing) = c.loop-v.invariant in (
      part,
      writing_more c.args.places.now part c.args.next.now c.requires.placed c.loop-v.ahead
          c.next.new.self c.loop-v.bits c.write.new.self c.in-Some.v c.contains.result writing
          c.in-Some.ensures c.contains.ensures c.write.ensures.written c.write.ensures.others,
    )

pub returns : goal.returns
returns c = let (part, writing) = c.loop-v.invariant in writing_done c.args.places.now part
    c.args.next.now c.loop-v.ahead c.loop-v.bits writing c.in_default.ensures
