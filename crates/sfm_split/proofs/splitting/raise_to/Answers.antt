use Rattle.std.proofs.Common.{length}
use Rattle.sfm_cells.specs.Cells.{joined, owners, AreCells, IsLacking}
use Rattle.sfm_cells.proofs.Outcomes.{cells_for, lacking_end}
use Rattle.sfm_split.specs.Pours.{IsPouring}
use Rattle.sfm_split.proofs.Pours.{pouring_begun}
use Rattle.sfm_split.proofs.splitting.raise_to.Goals.{In_ok-left, In_ok-set}
use Rattle.sfm_split.proofs.splitting.raise_to.Goals as goal

cells : (c : In_ok-left) → AreCells (length c.args.demand.now.demands)
    (length c.args.demand.now.capacities) c.args.cells.now.whos.items c.args.cells.now.slots.items
cells c = rw (c.requires.in_order, c.requires.in_lists)
    (cells_for c.args.demand.now c.demands-demands.ensures.sound)

-- the amounts as they come, with what they leave
begun : (c : In_ok-left) → IsPouring c.args.demand.now.demands c.args.demand.now.capacities
    c.args.cells.now.whos.items c.args.cells.now.slots.items c.args.y.now c.args.y.now
    c.in_ok-left.left.lacks.items c.in_ok-left.left.rooms.items
begun c =
    let d = c.args.demand.now in
    let left = c.in_ok-left.left in
    let lacks = rw c.demands-demands.ensures.value at c.in_ok-left.ensures.lacks in
    let rooms = rw c.capacities.ensures at c.in_ok-left.ensures.rooms in
    pouring_begun d.demands d.capacities c.args.cells.now.whos.items c.args.cells.now.slots.items
    c.args.y.now left.lacks.items left.rooms.items c.requires.part lacks rooms

-- and as they are raised
poured : (c : In_ok-set) → AreCells (length c.args.demand.now.demands)
    (length c.args.demand.now.capacities) c.args.cells.now.whos.items c.args.cells.now.slots.items
    → IsPouring c.args.demand.now.demands c.args.demand.now.capacities c.args.cells.now.whos.items
    c.args.cells.now.slots.items c.args.y.now c.args.y.now c.in_ok-left.left.lacks.items
    c.in_ok-left.left.rooms.items
    → IsPouring c.args.demand.now.demands c.args.demand.now.capacities c.args.cells.now.whos.items
    c.args.cells.now.slots.items c.args.y.now c.raise_all.new.y c.raise_all.new.left.lacks.items
    c.raise_all.new.left.rooms.items
poured c lined first =
    let d = c.args.demand.now in
    let list = c.list_lacking.ensures in
    let raised = rw (list.lacks, list.rooms) at c.in_ok-set.ensures.raised in
    raised.each d.demands d.capacities c.args.y.now lined first

pub lefts_of-requires-clause-cells : goal.lefts_of-requires-clause-cells
lefts_of-requires-clause-cells c =
    let d = c.args.demand.now in
    rw (
      c.demands-demands.ensures.value,
      c.capacities.ensures,
      c.requires.in_order,
      c.requires.in_lists,
    ) (cells_for d c.demands-demands.ensures.sound)

pub lefts_of-requires-clause-part : goal.lefts_of-requires-clause-part
lefts_of-requires-clause-part c = rw (c.demands-demands.ensures.value, c.capacities.ensures)
    c.requires.part

pub raise_all-requires : goal.raise_all-requires
raise_all-requires c =
    let path = goal.at.raise_all-requires c in
    let first = begun path.In_ok-left in
    let list = c.list_lacking.ensures in
    record {
      listed = c.in_ok-list_lacking.ensures.listed;
      within = rw (list.lacks, list.rooms) (record {
        demands = c.args.demand.now.demands;
        capacities = c.args.demand.now.capacities;
        cells = cells path.In_ok-left;
        bounded = c.demands-demands.ensures.sound.bounded;
        part = first.part;
        lacks_are = first.lacks_are;
        rooms_are = first.rooms_are;
      });
    }

pub returns-in-Some-clause-met : goal.returns-in-Some-clause-met
returns-in-Some-clause-met c =
    let path = goal.at.returns-in-Some-clause-met c in
    let d = c.args.demand.now in
    let z = c.raise_all.new.y in
    let lined = cells path.In_ok-left in
    let p = poured path.In_ok-set lined (begun path.In_ok-left) in
    let end = rw c.in-Some.is at c.in_ok-set.ensures.told in
    let told = end.each d.demands d.capacities c.args.y.now lined p in
    let part = rw (c.requires.in_order, c.requires.in_lists) at p.part in
    let lacking : IsLacking d.demands d.capacities (owners 0 d.lists) (joined d.lists) z
    c.in-Some.set = rw (c.requires.in_order, c.requires.in_lists) at told in
    lacking_end d z c.in-Some.set c.demands-demands.ensures.sound part lacking

pub returns-clause-met : goal.returns-clause-met
returns-clause-met c =
    let path = goal.at.returns-clause-met c in
    let d = c.args.demand.now in
    let lined = cells path.In_ok-left in
    let p = poured path.In_ok-set lined (begun path.In_ok-left) in
    let end = rw c.in_default.is at c.in_ok-set.ensures.told in
    record {
      in_order = c.requires.in_order;
      in_lists = c.requires.in_lists;
      part = p.part;
      met = end.each d.demands d.capacities c.args.y.now lined p;
    }
