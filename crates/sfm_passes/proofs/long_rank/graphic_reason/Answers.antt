use Rattle.sfm_lines.specs.Lines.{tokens_of}
use Rattle.sfm_lines.specs.declared.word.RankKind.TheVariants.{GraphicRank}
use Rattle.sfm_passes.proofs.LongLabels.{many-entries}
use Rattle.sfm_passes.proofs.long_rank.graphic_reason.Goals as goal

pub returns-in-Some-entries_fault : goal.returns-in-Some-entries_fault
returns-in-Some-entries_fault c = rw c.in-Some.ensures.cut c.in-Some-entries_fault.ensures

pub returns-then-has_token : goal.returns-then-has_token
returns-then-has_token c = many-entries c.args.instance.now GraphicRank tt c.args.number.now
    c.in-Some.colon.now (tokens_of c.in-Some.edges.now) (tokens_of c.args.behind.now)
    c.in-Some.ensures.cut c.if-not-has_token.ensures c.requires c.in_default-entries_fault.ensures
    c.if-has_token.ensures
