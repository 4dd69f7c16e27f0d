use Rattle.std.specs.String.{string_bytes}
use Rattle.sfm_demo.specs.DemoText.{each}
use Rattle.sfm_demo.specs.Names.{IsPut, item_of}
use Rattle.sfm_demo.proofs.words.write_items.Given as goal

abbrev pub invariant-loop-j : goal.invariant-loop-j
invariant-loop-j l = IsPut (each (item_of l.item) l.p l.step l.j) (string_bytes l.initial.out)
    (string_bytes l.out) l.initial.draws l.draws
