use Rattle.std.proofs.Common.{◌≡◌, take}
use Rattle.sfm_text.specs.Numbered.{for_terms}
use Rattle.sfm_text.proofs.reader.numbers_of_terms.Given as goal

abbrev pub invariant-loop-i : goal.invariant-loop-i
invariant-loop-i l = l.all.items ≡ for_terms (take l.i l.layers) (take l.i l.numbers)
