use Rattle.std.proofs.Common.{◌≡◌, take, map}
use Rattle.sfm_extreme.specs.Blocks.{block_of}
use Rattle.sfm_cert.specs.Answer.{text_of}
use Rattle.sfm_cert.specs.LineLists.{block_lines}
use Rattle.sfm_cert.proofs.put.put_blocks.Given as goal

abbrev pub invariant-loop-i : goal.invariant-loop-i
invariant-loop-i g l = l.out ≡ g.O.Out.after l.initial.out
    (text_of (block_lines l.instance.names 1 (take l.i (map block_of l.blocks))))
