use Rattle.std.proofs.Common.{◌≡◌, drop}
use Rattle.sfm_io.specs.Shelf.{text_named}
use Rattle.sfm_io.proofs.memory_shelf.place_of.Given as goal

abbrev pub invariant-loop-i : goal.invariant-loop-i
invariant-loop-i l = text_named (drop l.i l.texts) l.name ≡ text_named l.texts l.name
