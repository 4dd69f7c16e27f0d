use Rattle.std.proofs.Common.{take}
use Rattle.sfm_lines.specs.Lines.{texts_of}
use Rattle.sfm_lines.specs.Parts.{HaveNoSeparator}
use Rattle.sfm_lines.proofs.separator.has_separator.Given as goal

abbrev pub invariant-loop-token : goal.invariant-loop-token
invariant-loop-token l = HaveNoSeparator (texts_of (take l.token-index l.tokens))
