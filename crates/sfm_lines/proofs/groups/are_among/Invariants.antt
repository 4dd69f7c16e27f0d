use Rattle.std.proofs.Common.{Contains, take}
use Rattle.std.specs.List.{All}
use Rattle.sfm_lines.specs.Lines.{texts_of}
use Rattle.sfm_lines.proofs.groups.are_among.Given as goal

abbrev pub invariant-loop-name : goal.invariant-loop-name
invariant-loop-name l = All (Contains (texts_of l.elements)) (texts_of (take l.name-index l.names))
