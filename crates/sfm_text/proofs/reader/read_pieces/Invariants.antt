use Rattle.std.proofs.Common.{take}
use Rattle.std.specs.List.{concat}
use Rattle.sfm_lines.specs.Lines.{texts_of}
use Rattle.sfm_text.specs.Standing.{Stands}
use Rattle.sfm_text.proofs.reader.read_pieces.Given as goal

abbrev pub invariant-loop-piece : goal.invariant-loop-piece
invariant-loop-piece l = Stands l.reader (concat (texts_of (take l.piece-index l.pieces)))
