use Rattle.sfm_passes.proofs.SlotCuts.{slots-cut, repeats-by}
use Rattle.sfm_passes.proofs.slots.repeats_slot.Goals as goal

pub returns-in_default : goal.returns-in_default
returns-in_default c = λ (entry, h, twice). c.in_default.ensures entry.0 h.behind h.named

pub returns : goal.returns
returns c =
    let element = c.in-Some.element.now in
    let behind = c.in-Some.field-0-1.now in
    repeats-by c.args.token.now element behind c.in-Some.ensures c.in_ok-twice.twice
    (rw (slots-cut c.args.token.now element behind c.in-Some.ensures) at c.in_ok-twice.ensures)
