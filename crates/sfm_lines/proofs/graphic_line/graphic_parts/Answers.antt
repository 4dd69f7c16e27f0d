-- The line has the parts that its tokens have.
use Rattle.std.proofs.Common.{codes}
use Rattle.std.proofs.lemmas.Result.{IfOk-weaker}
use Rattle.sfm_lines.specs.Lines.{texts_of}
use Rattle.sfm_lines.specs.ReadParts.{parts_of}
use Rattle.sfm_lines.specs.declared.word.RankKind.TheVariants.{GraphicRank}
use Rattle.sfm_lines.proofs.Ranks.{labelled-made}
use Rattle.sfm_lines.proofs.graphic_line.graphic_parts.Goals as goal

pub returns : goal.returns
returns c = IfOk-weaker c.edge_parts.result _ _
    (λ r h. labelled-made parts_of GraphicRank (codes "graphic") (texts_of c.args.tokens.now)
    c.in-Some.number.now (texts_of c.in-Some.behind.now) c.in-Some.ensures r h) c.edge_parts.ensures

pub returns-in_default : goal.returns-in_default
returns-in_default c = λ parts h. c.in_default.ensures h.number h.behind h.head
