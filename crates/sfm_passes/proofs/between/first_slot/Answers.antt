use Rattle.sfm_lines.proofs.Cuts.{not_empty}
use Rattle.sfm_passes.proofs.SlotCuts.{slot-first}
use Rattle.sfm_passes.proofs.between.first_slot.Goals as goal

pub returns-clause-cut : goal.returns-clause-cut
returns-clause-cut c = slot-first c.args.text.now c.place_of_byte-end.result
    (not_empty _ c.if-is_empty.ensures) c.place_of_byte-end.ensures.place
