use Rattle.std.proofs.Common.{take}
use Rattle.std.specs.List.{All}
use Rattle.sfm_spec.specs.Names.{IsName}
use Rattle.sfm_lines.specs.Lines.{texts_of}
use Rattle.sfm_lines.proofs.names.are_names.Given as goal

abbrev pub invariant-loop-text : goal.invariant-loop-text
invariant-loop-text l = All IsName (texts_of (take l.text-index l.texts))
