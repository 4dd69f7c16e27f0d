use Rattle.std.proofs.Common.{◌≡◌, false, take}
use Rattle.std.specs.List.{All}
use Rattle.sfm_lines.specs.Tokens.{is_blank}
use Rattle.sfm_lines.proofs.tokens.blank_place.Given as goal

abbrev pub invariant-loop-i : goal.invariant-loop-i
invariant-loop-i l = All (λ c. is_blank c ≡ false) (take l.i l.line)
