use Rattle.std.proofs.Common.{length}
use Rattle.sfm_assign.proofs.Spreads.{answers_same}
use Rattle.sfm_assign.proofs.kept.Kept.make_room.Goals as goal

pub invariant_of-self-clause-known : goal.invariant_of-self-clause-known
invariant_of-self-clause-known c =
    let k = c.args.self.now in
    answers_same (length k.demand.demands) k.shares.cells.whos.items k.shares.cells.slots.items
    k.shares.y.items k.rooms.items k.beside.answers c.make_room.new.self
    c.make_room.ensures.same k.known
