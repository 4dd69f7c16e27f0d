use Rattle.std.proofs.Common.{refl, ◌∙◌}
use Rattle.sfm_cells.proofs.Grouping.{pass_here}
use Rattle.sfm_split.proofs.Within.{raised_nowhere, raised_on, still_within}
use Rattle.sfm_split.proofs.pour.pour_at.Goals as goal

pub loop-e-init : goal.loop-e-init
loop-e-init c =
    let left = c.args.left.now in
    record {
      raised = raised_nowhere c.args.cells.now.whos.items c.args.cells.now.slots.items c.args.y.now
          left.lacks.items left.rooms.items;
      within = c.requires.within;
      same = refl;
    }

pub pour_on-requires-clause-cell : goal.pour_on-requires-clause-cell
pour_on-requires-clause-cell c =
    (pass_here c.args.cells.now.whos_grouped c.list-e-items.ensures c.loop-e-test.true).0

pub loop-e-preserved : goal.loop-e-preserved
loop-e-preserved c =
    let whos = c.args.cells.now.whos.items in
    let slots = c.args.cells.now.slots.items in
    let first = c.args.left.now in
    let y = c.loop-e.y in
    let left = c.loop-e.left in
    let new = c.pour_on.new in
    let inv = c.loop-e.invariant in
    let raised = c.pour_on.ensures.raised in
    record {
      raised = raised_on whos slots c.args.y.now first.lacks.items first.rooms.items y
          left.lacks.items left.rooms.items new.y new.left.lacks.items new.left.rooms.items
          inv.raised raised;
      within = still_within whos slots y left.lacks.items left.rooms.items inv.within new.y
          new.left.lacks.items new.left.rooms.items raised;
      same = c.pour_on.ensures.same ∙ inv.same;
    }
