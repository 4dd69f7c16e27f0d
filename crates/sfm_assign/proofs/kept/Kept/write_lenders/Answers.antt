use Rattle.std.proofs.Common.{length, set, true, false, sym, ap, ◌∙◌, arith, length-set}
use Rattle.std.proofs.lemmas.List.{set-set}
use Rattle.sfm_assign.proofs.Remembered.{over_lists, written_room, written_led}
use Rattle.sfm_assign.proofs.kept.Kept.write_lenders.Goals as goal

pub returns-then-room-clause-reached : goal.returns-then-room-clause-reached
returns-then-room-clause-reached c =
    let k = c.args.self.now in
    let u = c.args.u in
    let counted = c.count_asking.new.self in
    let asking = counted.beside.asking in
    let same = c.count_asking.ensures.same in
    let each = rw same at counted.each in
    let asked = rw same at (counted.asked c.count_asking.ensures.counted) in
    let (part, met, left) = over_lists k.demand _ _ k.shares.y.items k.rooms.items k.met k.left in
    let room = rw (k.met.in_order, k.met.in_lists) at (rw c.if-room.true at c.requires.led) in
    let long = ap length c.write_others.ensures ∙ (length-set asking u false ∙ each) in
    λ v lv. written_room k.demand c.demands-sound.ensures.sound u c.requires.place k.shares.y.items
    k.rooms.items part met left room asking each asked c.write_others.new.to
    c.write_others.ensures v (omega (arith, lv, long))

pub returns-clause-reached : goal.returns-clause-reached
returns-clause-reached c =
    let k = c.args.self.now in
    let u = c.args.u in
    let to = c.args.to.now in
    let (part, met, left) = over_lists k.demand _ _ k.shares.y.items k.rooms.items k.met k.left in
    let led = rw (k.met.in_order, k.met.in_lists) at (rw c.if-room.false at c.requires.led) in
    let long = ap length c.remove.ensures ∙ (length-set to u false ∙ c.requires.room_for_answer) in
    λ v lv. written_led k.demand c.demands-sound.ensures.sound u c.requires.place k.shares.y.items
    k.rooms.items part met left (set to u true) led c.remove.new.self
    (c.remove.ensures ∙ sym (set-set to u true false)) v (omega (arith, lv, long))
