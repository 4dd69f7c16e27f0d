use Rattle.std.proofs.Common.{refl}
use Rattle.sfm_demo.specs.Names.{item_of}
use Rattle.sfm_demo.proofs.Pieces.{each_more, each_none}
use Rattle.sfm_demo.proofs.words.write_items.Goals as goal

pub loop-j-init : goal.loop-j-init
loop-j-init c = each_none (item_of c.args.item) c.args.p c.args.step c.args.draws.now _

pub loop-j-preserved : goal.loop-j-preserved
loop-j-preserved c = each_more (item_of c.args.item) c.args.p c.args.step c.loop-j.j _ _ _ _ _ _ _
    refl c.loop-j.invariant c.in_ok-write_item.ensures
