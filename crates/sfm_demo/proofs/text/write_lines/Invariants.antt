use Rattle.std.specs.String.{string_bytes}
use Rattle.sfm_demo.specs.DemoText.{lines}
use Rattle.sfm_demo.specs.Names.{IsPut}
use Rattle.sfm_demo.proofs.text.write_lines.Given as goal

abbrev pub invariant-loop-i : goal.invariant-loop-i
invariant-loop-i l = IsPut (lines l._i l.kind) (string_bytes l.initial.out) (string_bytes l.out)
    l.initial.draws l.draws
