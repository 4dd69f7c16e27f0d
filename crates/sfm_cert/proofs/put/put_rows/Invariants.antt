use Rattle.std.proofs.Common.{◌≡◌, take}
use Rattle.sfm_cert.specs.Answer.{row_lines, text_of}
use Rattle.sfm_cert.specs.Spots.{StandsAt}
use Rattle.sfm_cert.proofs.put.put_rows.Given as goal

abbrev pub invariant-loop-i : goal.invariant-loop-i
invariant-loop-i g l = (l.out ≡ g.O.Out.after l.initial.out
    (text_of (row_lines l.word l.instance.lines 1 (take l.i l.rows))))
    × StandsAt l.instance.lines l.i l.spot
