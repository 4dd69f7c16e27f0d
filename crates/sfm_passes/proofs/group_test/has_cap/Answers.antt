use Rattle.sfm_lines.specs.Lines.{tokens_of}
use Rattle.sfm_lines.specs.declared.word.TermWord.TheVariants.{RankWord}
use Rattle.sfm_lines.specs.ReadParts.{IsNumberOf}
use Rattle.sfm_passes.proofs.PieceGroups.{of-none, cap-by}
use Rattle.sfm_passes.proofs.group_test.has_cap.Goals as goal

pub returns-in-Some : goal.returns-in-Some
returns-in-Some c = cap-by c.args.instance.now.version (tokens_of c.args.piece.now) _ _
    c.in-Some.ensures.cut c.is_number_of.result c.is_number_of.ensures

pub returns-in-None : goal.returns-in-None
returns-in-None c = of-none (λ cap names. IsNumberOf c.args.instance.now.version RankWord cap)
    (tokens_of c.args.piece.now) c.in-None.ensures.cut
