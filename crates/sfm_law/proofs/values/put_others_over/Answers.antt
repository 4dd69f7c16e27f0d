use Rattle.std.proofs.Common.{◌∙◌, get_or, pos, length-set, arith}
use Rattle.sfm_law.specs.Values.{IsOver}
use Rattle.sfm_law.proofs.Places.{others_in}
use Rattle.sfm_law.proofs.values.put_others_over.Goals as goal

pub returns-clause-places : goal.returns-clause-places
returns-clause-places c = rw c.remove.ensures (length-set _ _ _ ∙ c.put_over.ensures.places)

pub returns-clause-over : goal.returns-clause-over
returns-clause-over c = λ v kv.
    let r = c.requires in
    let p = c.put_over.ensures in
    rw c.remove.ensures (others_in (λ k. IsOver c.args.bar (get_or c.args.x.now k (pos 0)))
    c.put_over.new.to c.args.u v (omega (arith, p.places, r.room_for_answer, r.from))
    (p.over v kv))
