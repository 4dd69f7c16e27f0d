use Rattle.std.proofs.Common.{map}
use Rattle.sfm_cert.specs.Solved.{break_of, form_of}
use Rattle.sfm_readback.specs.Lists.{break_of_head}
use Rattle.sfm_readback.proofs.Sections.{BreaksSoFar}
use Rattle.sfm_readback.proofs.read.read_breaks.Given as goal

abbrev pub invariant-loop-head : goal.invariant-loop-head
invariant-loop-head l = BreaksSoFar (form_of l.instance) l.text (map break_of_head l.heads)
    l.initial.cursor l.cursor l.head-index (map break_of l.breaks.items)
