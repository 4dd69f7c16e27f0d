use Rattle.std.proofs.Common.{◌≡◌, ◌==◌, false, take}
use Rattle.std.specs.List.{All}
use Rattle.sfm_lines.proofs.pair.place_of_byte.Given as goal

abbrev pub invariant-loop-i : goal.invariant-loop-i
invariant-loop-i l = All (λ c. (c == l.b) ≡ false) (take l.i l.text)
