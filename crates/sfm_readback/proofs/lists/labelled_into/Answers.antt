use Rattle.std.proofs.Common.{◌∙◌}
use Rattle.sfm_cert.specs.Spots.{spot_label}
use Rattle.sfm_readback.proofs.LineForms.{row_cut, row_parts}
use Rattle.sfm_readback.proofs.lists.labelled_into.Goals as goal

pub returns-in_default : goal.returns-in_default
returns-in_default c = λ x h. c.in_default.ensures _
    (h.2 ∙ row_cut c.args.word.now (spot_label c.args.spot) x)

pub returns-in_default-2 : goal.returns-in_default-2
returns-in_default-2 c = λ x h.
    let none = rw c.in_default-2.is at c.in_ok-numbers_into.ensures in
    none x h.0 h.1 (row_parts c.args.word.now (spot_label c.args.spot) c.args.width c.args.line.now
    c.in-Some.bytes.now x c.in-Some.ensures h)
