use Rattle.std.proofs.Common.{◌≡◌, ◌++◌, length, take, drop, ap, sym, ◌∙◌}
use Rattle.sfm_cells.proofs.Written.{written}
use Rattle.sfm_cells.proofs.Outcomes.{cells_for}
use Rattle.sfm_split.specs.Changes.{IsBegun}
use Rattle.sfm_split.proofs.change.find_amounts.Goals.{In_ok-turn}
use Rattle.sfm_split.proofs.change.find_amounts.Goals as goal

pub turn-requires : goal.turn-requires
turn-requires c =
    let r = c.requires in
    let sound = c.demands-sound.ensures.sound in
    let told = c.in_ok-begin.ensures in
    record {
      sized = r.sized;
      slots = r.slots;
      amounts = r.sound.amounts;
      bounded = r.sound.bounded;
      stands = rw (c.all-cells.ensures, c.deref_mut.ensures.value ∙ told.amounts) (record {
        cells = rw (r.met.in_order, r.met.in_lists) (cells_for c.args.demand.now sound);
        asked = sound.amounts;
        bounded = sound.bounded;
        part = r.met.part;
        lacks_are = told.lacks;
        rooms_are = rw told.rooms r.left;
      });
      listed = told.listed;
    }

-- amounts that are within what is aimed at
begun : (c : In_ok-turn) → let cells = c.args.shares.now.cells in let y = c.begin.new.work.y in
    IsBegun (record {
      demands = c.args.aim.now.demands.now;
      lists = c.args.demand.now.lists;
      capacities = c.args.aim.now.capacities.now;
    }) cells.whos.items cells.slots.items
    (take y.len (c.turn.new.y ++ drop (length c.turn.new.y) y.items)) c.turn.new.left.lacks.items
    c.turn.new.left.rooms.items
begun c =
    let y = c.begin.new.work.y in
    let long : length c.turn.new.y ≡ y.len = c.turn.auto.y ∙ (ap length c.deref_mut.ensures.value
    ∙ sym y.ok.0) in
    rw (written c.turn.new.y (drop (length c.turn.new.y) y.items) y.len long) (record {
      sound = c.requires.sound;
      in_order = c.requires.met.in_order;
      in_lists = c.requires.met.in_lists;
      stands = rw c.all-cells.ensures at c.in_ok-turn.ensures.stands;
    })

pub meet-requires : goal.meet-requires
meet-requires c =
    let aim = c.args.aim.now in
    record {
      begun = (
        record {
          demands = aim.demands.now;
          lists = c.args.demand.now.lists;
          capacities = aim.capacities.now;
        },
        rw c.all-cells.ensures (begun (goal.at.meet-requires c).In_ok-turn),
      );
      listed = c.in_ok-turn.ensures.listed;
    }

pub returns : goal.returns
returns c = (rw c.all-cells.ensures at c.meet.ensures) _ (begun (goal.at.returns c).In_ok-turn)
