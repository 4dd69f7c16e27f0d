use Rattle.sfm_lines.specs.Lines.{tokens_of}
use Rattle.sfm_passes.proofs.PieceGroups.{whole-none, whole-few, whole-marked, whole-made}
use Rattle.sfm_passes.proofs.group_test.is_whole.Goals as goal

pub returns-in_default : goal.returns-in_default
returns-in_default c = whole-none (tokens_of c.args.piece.now) c.in_default.ensures.cut

pub returns-then-not-has_token : goal.returns-then-not-has_token
returns-then-not-has_token c = whole-few (tokens_of c.args.piece.now) _ _ c.in-Some.ensures.cut
    c.if-not-has_token.ensures

pub returns-then-has_separator_in : goal.returns-then-has_separator_in
returns-then-has_separator_in c =
    whole-marked (tokens_of c.args.piece.now) c.if-has_separator_in.ensures

pub returns : goal.returns
returns c = whole-made (tokens_of c.args.piece.now) _ _ c.in-Some.ensures.cut
    c.if-not-has_token.ensures c.if-has_separator_in.ensures
