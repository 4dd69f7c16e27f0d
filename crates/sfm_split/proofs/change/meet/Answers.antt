use Rattle.std.proofs.Common.{◌≡◌, length, drop, ap, sym, ◌∙◌}
use Rattle.sfm_cells.specs.Splits.{Demands}
use Rattle.sfm_cells.specs.Cells.{joined, owners, IsLacking}
use Rattle.sfm_cells.proofs.Written.{written}
use Rattle.sfm_cells.proofs.Outcomes.{lacking_end}
use Rattle.sfm_split.specs.Pours.{IsPouring}
use Rattle.sfm_split.specs.Changes.{IsBegun}
use Rattle.sfm_split.proofs.Lowering.{standing_within, standing_pouring}
use Rattle.sfm_split.proofs.change.meet.Goals.{In_ok-told}
use Rattle.sfm_split.proofs.change.meet.Goals as goal

pub raise_all-requires : goal.raise_all-requires
raise_all-requires c =
    let (d, h) = c.requires.begun in
    let cells = c.args.cells.now in
    let work = c.args.work.now in
    record {
      within = rw c.deref_mut.ensures.value
          (standing_within d.demands d.capacities cells.whos.items cells.slots.items
          work.y.items work.left.lacks.items work.left.rooms.items h.stands);
      listed = c.requires.listed;
    }

-- the amounts are raised as far as they go
raised : (c : In_ok-told) (d : Demands)
    → IsBegun d c.args.cells.now.whos.items c.args.cells.now.slots.items c.args.work.now.y.items
    c.args.work.now.left.lacks.items c.args.work.now.left.rooms.items
    → IsPouring d.demands d.capacities c.args.cells.now.whos.items c.args.cells.now.slots.items
    c.args.work.now.y.items c.raise_all.new.y c.raise_all.new.left.lacks.items
    c.raise_all.new.left.rooms.items
raised c d h =
    let cells = c.args.cells.now in
    let work = c.args.work.now in
    (rw c.deref_mut.ensures.value at c.in_ok-told.ensures.raised).each d.demands d.capacities
    work.y.items h.stands.cells
    (standing_pouring d.demands d.capacities cells.whos.items cells.slots.items work.y.items
    work.left.lacks.items work.left.rooms.items h.stands)

pub returns-in-Some : goal.returns-in-Some
returns-in-Some c = λ d h.
    let path = goal.at.returns-in-Some c in
    let p = raised path.In_ok-told d h in
    let end = rw c.in-Some.is at c.in_ok-told.ensures.told in
    let told = end.each d.demands d.capacities c.args.work.now.y.items h.stands.cells p in
    let part = rw (h.in_order, h.in_lists) at p.part in
    let lacking : IsLacking d.demands d.capacities (owners 0 d.lists) (joined d.lists)
    c.raise_all.new.y c.in-Some.set = rw (h.in_order, h.in_lists) at told in
    lacking_end d c.raise_all.new.y c.in-Some.set h.sound part lacking

pub returns : goal.returns
returns c = λ d h.
    let path = goal.at.returns c in
    let work = c.args.work.now in
    let p = raised path.In_ok-told d h in
    let end = rw c.in_default.is at c.in_ok-told.ensures.told in
    let met = end.each d.demands d.capacities work.y.items h.stands.cells p in
    let long : length c.raise_all.new.y ≡ work.y.len = c.raise_all.auto.y
    ∙ (ap length c.deref_mut.ensures.value ∙ sym work.y.ok.0) in
    let q = written c.raise_all.new.y (drop (length c.raise_all.new.y) work.y.items) work.y.len
    long in
    record {
      met = record {
        in_order = h.in_order;
        in_lists = h.in_lists;
        part = rw q p.part;
        met = rw q met;
      };
      lacks_are = rw q p.lacks_are;
      rooms_are = rw q p.rooms_are;
    }
