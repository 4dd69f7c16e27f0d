use Rattle.std.proofs.Common.{map, length, ◌-◌}
use Rattle.sfm_cert.specs.Solved.{form_of}
use Rattle.sfm_readback.specs.Lists.{break_of_head}
use Rattle.sfm_readback.specs.Parts.{ReadsHeads}
use Rattle.sfm_readback.proofs.read.read_heads.Given as goal

abbrev pub invariant-loop-alloc : goal.invariant-loop-alloc
invariant-loop-alloc l = ReadsHeads (form_of l.instance) l.text l.initial.cursor l.cursor
    (map break_of_head l.heads.items)

abbrev pub decreases-loop-alloc : goal.decreases-loop-alloc
decreases-loop-alloc l = length l.text - l.cursor.at
