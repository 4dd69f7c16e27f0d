use Rattle.sfm_lines.proofs.FirstSlots.{whole-cut, cut-whole}
use Rattle.sfm_text.proofs.laws.first_slots_suffice.Goals as goal

pub returns : goal.returns
returns c = λ labels t once. (cut-whole labels t, whole-cut labels t once)
