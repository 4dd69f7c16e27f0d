use Rattle.std.proofs.Common.{length}
use Rattle.sfm_assign.proofs.Gathering.{taken_none}
use Rattle.sfm_assign.proofs.gather.take_slot.Goals as goal

pub returns-in_default-clause-taken : goal.returns-in_default-clause-taken
returns-in_default-clause-taken c =
    let s = c.args.split.now.shares.now in
    taken_none (length c.args.answers.now) s.cells.whos.items s.cells.slots.items s.y.items
    c.args.split.now.rooms.now c.args.s c.args.to.now c.requires.whole c.in_default.ensures
