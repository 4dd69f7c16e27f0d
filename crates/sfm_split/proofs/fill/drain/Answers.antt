use Rattle.std.proofs.Common.{refl, sym, ◌∙◌, arith}
use Rattle.sfm_cells.specs.Cells.{label_at}
use Rattle.sfm_cells.proofs.Grouping.{pass_here}
use Rattle.sfm_split.proofs.Within.{raised_nowhere, raised_on, raised_lacks, still_within, within_cells}
use Rattle.sfm_split.proofs.fill.drain.Goals as goal

pub loop-e-init : goal.loop-e-init
loop-e-init c =
    let cells = c.args.cells.now in
    let left = c.args.left.now in
    record {
      raised = raised_nowhere cells.whos.items cells.slots.items c.args.y.now left.lacks.items
          left.rooms.items;
      within = c.requires.within;
      same = refl;
      nodes = c.requires.places;
    }

pub raise-requires-clause-cell : goal.raise-requires-clause-cell
raise-requires-clause-cell c =
    let left = c.args.left.now in
    let same = (within_cells c.args.cells.now.whos.items c.args.cells.now.slots.items c.args.y.now
    left.lacks.items left.rooms.items c.requires.within).same in
    let (lt, mine) = pass_here c.args.cells.now.slots_grouped c.list-e-items.ensures
    c.loop-e-test.true in
    omega (arith, lt, same)

pub index-requires : goal.index-requires
index-requires c =
    let left = c.loop-e.left in
    let cells = within_cells c.args.cells.now.whos.items c.args.cells.now.slots.items c.loop-e.y
    left.lacks.items left.rooms.items c.loop-e.invariant.within in
    let same = cells.same in
    let (lt, mine) = pass_here c.args.cells.now.slots_grouped c.list-e-items.ensures
    c.loop-e-test.true in
    let exist = cells.exist (label_at c.list-e-items.result.now c.loop-e.e-index)
    (omega (arith, lt, same)) in
    let ok = left.rooms.ok.0 in
    omega (arith, exist, mine, ok)

pub loop-e-preserved : goal.loop-e-preserved
loop-e-preserved c =
    let whos = c.args.cells.now.whos.items in
    let slots = c.args.cells.now.slots.items in
    let inv = c.loop-e.invariant in
    let first = c.args.left.now in
    let left = c.loop-e.left in
    let y = c.loop-e.y in
    let after = c.raise.new.left in
    let z = c.raise.new.y in
    let raised = c.raise.ensures.raised in
    record {
      raised = raised_on whos slots c.args.y.now first.lacks.items first.rooms.items y
          left.lacks.items left.rooms.items z after.lacks.items after.rooms.items inv.raised raised;
      within = still_within whos slots y left.lacks.items left.rooms.items inv.within z
          after.lacks.items after.rooms.items raised;
      same = c.raise.ensures.same ∙ inv.same;
      nodes = inv.nodes ∙ sym (raised_lacks whos slots y left.lacks.items left.rooms.items
          inv.within z after.lacks.items after.rooms.items raised);
    }
