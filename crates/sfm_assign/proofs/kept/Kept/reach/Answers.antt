use Rattle.std.proofs.Common.{◌∙◌}
use Rattle.sfm_assign.proofs.kept.Kept.reach.Goals as goal

pub gather-requires : goal.gather-requires
gather-requires c =
    let w = c.in_ok-make_room.ensures in
    record {
      place = rw w.same c.requires.place;
      places = w.places;
      room_for_answer = rw w.same c.requires.room_for_answer;
    }

pub write_lenders-requires : goal.write_lenders-requires
write_lenders-requires c =
    let w = c.in_ok-make_room.ensures in
    let g = c.in_ok-room.ensures in
    let same = g.same ∙ w.same in
    record {
      place = rw same c.requires.place;
      room_for_answer = g.places
          ∙ rw same c.requires.room_for_answer;
      led = rw (g.whos, g.slots, g.amounts, g.rooms, g.same) g.led;
    }

pub returns-clause-same : goal.returns-clause-same
returns-clause-same c = c.write_lenders.ensures.same
    ∙ (c.in_ok-room.ensures.same ∙ c.in_ok-make_room.ensures.same)

pub returns-clause-places : goal.returns-clause-places
returns-clause-places c = c.write_lenders.ensures.places ∙ c.in_ok-room.ensures.places

pub returns-clause-reached : goal.returns-clause-reached
returns-clause-reached c = rw (c.in_ok-room.ensures.same ∙ c.in_ok-make_room.ensures.same) at
    c.write_lenders.ensures.reached
