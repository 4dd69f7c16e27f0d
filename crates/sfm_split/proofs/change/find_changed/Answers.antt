use Rattle.std.proofs.Common.{◌≡◌, ◌++◌, length, take, drop, ap, sym, ◌∙◌}
use Rattle.sfm_cells.proofs.Written.{written}
use Rattle.sfm_cells.proofs.Outcomes.{cells_for, other_demands}
use Rattle.sfm_split.specs.Changes.{changed, IsBegun}
use Rattle.sfm_split.proofs.Changes.{length-changed, changed_amounts}
use Rattle.sfm_split.proofs.change.find_changed.Goals.{In_ok-take_steps}
use Rattle.sfm_split.proofs.change.find_changed.Goals as goal

pub take_steps-requires : goal.take_steps-requires
take_steps-requires c =
    let r = c.requires in
    let sound = c.demands-sound.ensures.sound in
    let told = c.in_ok-begin.ensures in
    record {
      changes = r.changes;
      slots = r.slots;
      bounded = r.bounded;
      stands = rw (c.all-cells.ensures, c.deref_mut.ensures.value ∙ told.amounts) (record {
        cells = rw (r.met.in_order, r.met.in_lists) (cells_for c.args.demand.now sound);
        asked = sound.amounts;
        bounded = sound.bounded;
        part = r.met.part;
        lacks_are = told.lacks;
        rooms_are = rw told.rooms r.left;
      });
      listed = told.listed;
    }

-- amounts that are within the demands once these have changed
begun : (c : In_ok-take_steps)
    → let cells = c.args.shares.now.cells in let y = c.begin.new.work.y in
    IsBegun (record {
      demands = changed c.args.steps.now.changes.now c.args.demand.now.demands;
      lists = c.args.demand.now.lists;
      capacities = c.args.steps.now.capacities.now;
    }) cells.whos.items cells.slots.items
    (take y.len (c.take_steps.new.y ++ drop (length c.take_steps.new.y) y.items))
    c.take_steps.new.left.lacks.items c.take_steps.new.left.rooms.items
begun c =
    let r = c.requires in
    let d = c.args.demand.now in
    let changes = c.args.steps.now.changes.now in
    let sound = c.demands-sound.ensures.sound in
    let new = c.take_steps.new.y in
    let y = c.begin.new.work.y in
    let long : length new ≡ y.len = c.take_steps.auto.y ∙ (ap length c.deref_mut.ensures.value
    ∙ sym y.ok.0) in
    rw (written new (drop (length new) y.items) y.len long) (record {
      sound = other_demands d sound (changed changes d.demands)
          c.args.steps.now.capacities.now (length-changed changes d.demands) r.slots
          (changed_amounts changes d.demands r.changes sound.amounts) r.bounded;
      in_order = r.met.in_order;
      in_lists = r.met.in_lists;
      stands = rw c.all-cells.ensures at c.in_ok-take_steps.ensures.stands;
    })

pub meet-requires : goal.meet-requires
meet-requires c =
    let steps = c.args.steps.now in
    record {
      begun = (
        record {
          demands = changed steps.changes.now c.args.demand.now.demands;
          lists = c.args.demand.now.lists;
          capacities = steps.capacities.now;
        },
        rw c.all-cells.ensures (begun (goal.at.meet-requires c).In_ok-take_steps),
      );
      listed = c.in_ok-take_steps.ensures.listed;
    }

pub returns : goal.returns
returns c =
    (rw c.all-cells.ensures at c.meet.ensures) _ (begun (goal.at.returns c).In_ok-take_steps)
