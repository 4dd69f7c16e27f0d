use Rattle.std.proofs.Common.{take}
use Rattle.std.specs.List.{AllZip}
use Rattle.sfm_lines.specs.Lines.{texts_of}
use Rattle.sfm_lines.specs.TermLines.{IsElement}
use Rattle.sfm_lines.proofs.term_line.read_places.Given as goal

abbrev pub invariant-loop-text : goal.invariant-loop-text
invariant-loop-text l = AllZip (IsElement l.instance.names) (texts_of (take l.text-index l.texts))
    l.places.items
