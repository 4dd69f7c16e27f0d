use Rattle.std.proofs.Common.{◌≢◌, take, codes}
use Rattle.std.specs.List.{All}
use Rattle.sfm_lines.specs.Lines.{texts_of}
use Rattle.sfm_lines.proofs.separator.colon_place.Given as goal

abbrev pub invariant-loop-i : goal.invariant-loop-i
invariant-loop-i l = All (λ text. text ≢ codes ":") (texts_of (take l.i l.tokens))
