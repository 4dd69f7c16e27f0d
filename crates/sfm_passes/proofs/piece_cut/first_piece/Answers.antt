use Rattle.sfm_lines.specs.Lines.{tokens_of}
use Rattle.sfm_passes.proofs.PieceCuts.{piece-first, piece-last}
use Rattle.sfm_passes.proofs.piece_cut.first_piece.Goals as goal

pub returns-in-Some-clause-pieces : goal.returns-in-Some-clause-pieces
returns-in-Some-clause-pieces c = piece-first (tokens_of c.args.line.now) _ _ c.in-Some.ensures.cut

pub returns-in-None-clause-pieces : goal.returns-in-None-clause-pieces
returns-in-None-clause-pieces c = piece-last (tokens_of c.args.line.now) c.in-None.ensures.cut
