use Rattle.std.proofs.Common.{◌≡◌, take}
use Rattle.sfm_cert.specs.LineLists.{numbered}
use Rattle.sfm_cert.proofs.put.put_numbers.Given as goal

abbrev pub invariant-loop-a : goal.invariant-loop-a
invariant-loop-a g l = l.out ≡ g.O.Out.after l.initial.out (numbered (take l.a-index l.numbers))
