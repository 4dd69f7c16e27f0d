use Rattle.std.proofs.Common.{Contains}
use Rattle.std.specs.List.{All}
use Rattle.sfm_lines.specs.Lines.{tokens_of}
use Rattle.sfm_passes.proofs.PieceGroups.{of-none, members-by}
use Rattle.sfm_passes.proofs.group_test.has_members.Goals as goal

pub returns-in-Some : goal.returns-in-Some
returns-in-Some c = λ elements keys. members-by elements (tokens_of c.args.piece.now) _ _
    c.in-Some.ensures.cut c.are_known_in.result (c.are_known_in.ensures elements keys)

pub returns-in-None : goal.returns-in-None
returns-in-None c = λ elements keys. of-none (λ cap names. All (Contains elements) names)
    (tokens_of c.args.piece.now) c.in-None.ensures.cut
