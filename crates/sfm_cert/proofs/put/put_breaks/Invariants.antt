use Rattle.std.proofs.Common.{◌≡◌, take, map}
use Rattle.sfm_cert.specs.Answer.{text_of}
use Rattle.sfm_cert.specs.LineLists.{slope_lines}
use Rattle.sfm_cert.specs.Solved.{break_of}
use Rattle.sfm_cert.proofs.put.put_breaks.Given as goal

abbrev pub invariant-loop-b : goal.invariant-loop-b
invariant-loop-b g l = l.out ≡ g.O.Out.after l.initial.out
    (text_of (slope_lines l.instance.names (take l.b-index (map break_of l.breaks))))
