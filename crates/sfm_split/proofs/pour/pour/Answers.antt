use Rattle.std.proofs.Common.{refl, ◌∙◌}
use Rattle.sfm_split.proofs.Within.{raised_nowhere, raised_on, still_within}
use Rattle.sfm_split.proofs.pour.pour.Goals as goal

pub loop-k-init : goal.loop-k-init
loop-k-init c =
    let left = c.args.left.now in
    record {
      raised = raised_nowhere c.args.cells.now.whos.items c.args.cells.now.slots.items c.args.y.now
          left.lacks.items left.rooms.items;
      within = c.requires.within;
      same = refl;
    }

pub loop-k-preserved : goal.loop-k-preserved
loop-k-preserved c =
    let whos = c.args.cells.now.whos.items in
    let slots = c.args.cells.now.slots.items in
    let first = c.args.left.now in
    let y = c.loop-k.y in
    let left = c.loop-k.left in
    let new = c.pour_at.new in
    let inv = c.loop-k.invariant in
    let raised = c.pour_at.ensures.raised in
    record {
      raised = raised_on whos slots c.args.y.now first.lacks.items first.rooms.items y
          left.lacks.items left.rooms.items new.y new.left.lacks.items new.left.rooms.items
          inv.raised raised;
      within = still_within whos slots y left.lacks.items left.rooms.items inv.within new.y
          new.left.lacks.items new.left.rooms.items raised;
      same = c.pour_at.ensures.same ∙ inv.same;
    }
