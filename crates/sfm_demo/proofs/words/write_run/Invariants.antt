use Rattle.std.proofs.Common.{◌≡◌, ◌++◌}
use Rattle.std.specs.String.{string_bytes}
use Rattle.sfm_demo.specs.Names.{names}
use Rattle.sfm_demo.proofs.words.write_run.Given as goal

abbrev pub invariant-loop-j : goal.invariant-loop-j
invariant-loop-j l = string_bytes l.out ≡ string_bytes l.initial.out ++ names l.p l.step l.j
