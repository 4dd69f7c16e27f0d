use Rattle.std.proofs.Common.{take}
use Rattle.std.specs.List.{All}
use Rattle.sfm_lines.specs.Reading.{IsBadByte}
use Rattle.sfm_text.proofs.added.are_good_bytes.Given as goal

abbrev pub invariant-loop-c : goal.invariant-loop-c
invariant-loop-c l = All (λ c. IsBadByte c → ⊥) (take l.c-index l.line)
