use Rattle.std.proofs.Common.{arith}
use Rattle.std.specs.List.{Contains}
use Rattle.sfm_law.proofs.Puts.{put_more}
use Rattle.sfm_laminar.proofs.Slacking.{mask_from}
use Rattle.sfm_laminar.proofs.masks.mask_of.Goals as goal

pub loop-v-preserved : goal.loop-v-preserved
loop-v-preserved c =
    let inv = c.loop-v.invariant in
    rw c.put.ensures (put_more (λ e. Contains c.args.members.now e) c.args.k c.loop-v.s c.loop-v.v
    c.lists.result inv.places inv.exact c.loop-v-test.true c.lists.ensures)

pub returns : goal.returns
returns c =
    let inv = c.loop-v.invariant in
    mask_from c.args.k c.args.members.now c.loop-v.s inv.places c.requires.below
    (λ e lt. inv.exact e (omega (arith, lt, c.loop-v-test.false)))
