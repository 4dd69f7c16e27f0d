-- only notes are added
use Rattle.std.proofs.Common.{◌≡◌}
use Rattle.sfm_assign.proofs.spread.Spread.make_room.Given as goal

abbrev pub invariant-loop : goal.invariant-loop
invariant-loop l = record {
  from : l.self.from ≡ l.initial.self.from;
  found : l.self.found ≡ l.initial.self.found;
  marks : l.self.marks ≡ l.initial.self.marks;
  queue : l.self.queue.items ≡ l.initial.self.queue.items;
  next : l.self.next ≡ l.initial.self.next;
}
