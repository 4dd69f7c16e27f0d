use Rattle.std.proofs.Common.{◌<◌, length, pos, arith}
use Rattle.std.proofs.lemmas.Int.{ints}
use Rattle.std.proofs.lemmas.List.{get_or_read}
use Rattle.sfm_assign.proofs.Gathering.{nothing_on}
use Rattle.sfm_cells.specs.Cells.{label_at}
use Rattle.sfm_cells.proofs.Grouping.{pass_begun, pass_here, pass_more, pass_done}
use Rattle.sfm_assign.proofs.gather.held_cell.Goals as goal

pub loop-f-init : goal.loop-f-init
loop-f-init c = pass_begun c.list-f-items.result.now (nothing_on c.args.shares.now.y.items)

pub index-requires : goal.index-requires
index-requires c =
    let (lt, mine) = pass_here c.args.shares.now.cells.slots_grouped
    (rw c.all-cells.ensures at c.list-f-items.ensures) c.loop-f-test.true in
    let same = c.requires.same in
    let each = c.requires.each in
    omega (arith, lt, same, each)

pub returns-then-index-gt0 : goal.returns-then-index-gt0
returns-then-index-gt0 c =
    let cells = c.args.shares.now.cells in
    let f = label_at c.list-f-items.result.now c.loop-f.f-index in
    let (lt, mine) = pass_here c.args.shares.now.cells.slots_grouped
    (rw c.all-cells.ensures at c.list-f-items.ensures) c.loop-f-test.true in
    let same = c.requires.same in
    let each = c.requires.each in
    let within : f < length cells.whos.items = omega (arith, lt, each) in
    let amount = get_or_read c.args.shares.now.y.items f c.index.result.now
    (omega (arith, within, same)) c.index.ensures (pos 0) in
    let more = c.if-index-gt0.true in
    record { exists = within; there = mine; some = omega (arith, ints, amount, more) }

pub loop-f-preserved : goal.loop-f-preserved
loop-f-preserved c =
    let f = label_at c.list-f-items.result.now c.loop-f.f-index in
    let (lt, mine) = pass_here c.args.shares.now.cells.slots_grouped
    (rw c.all-cells.ensures at c.list-f-items.ensures) c.loop-f-test.true in
    let same = c.requires.same in
    let each = c.requires.each in
    let amount = get_or_read c.args.shares.now.y.items f c.index.result.now
    (omega (arith, lt, same, each)) c.index.ensures (pos 0) in
    let none = c.if-index-gt0.false in
    pass_more (nothing_on c.args.shares.now.y.items) c.loop-f.invariant (λ f h. h)
    (omega (arith, ints, amount, none))

pub returns : goal.returns
returns c =
    let each = c.requires.each in
    λ h holds. let here = holds.exists in let some = holds.some in let none = pass_done
    c.args.shares.now.cells.slots_grouped (rw c.all-cells.ensures at c.list-f-items.ensures)
    c.loop-f-test.false c.loop-f.invariant holds.cell (omega (arith, here, each))
    holds.there in omega (arith, ints, some, none)
