use Rattle.sfm_lines.specs.declared.word.TermWord.TheVariants.{RankWord}
use Rattle.sfm_passes.proofs.LongReasons.{long-shape}
use Rattle.sfm_passes.proofs.LongRanks.{no-rank}
use Rattle.sfm_passes.proofs.long_rank.rank_reason.Goals as goal

pub returns-in-NoRank : goal.returns-in-NoRank
returns-in-NoRank c = rw c.in-Some.ensures
    (long-shape c.args.instance.now RankWord _ (no-rank _ _ _ c.in-NoRank.ensures))

pub returns-in-UniformRank : goal.returns-in-UniformRank
returns-in-UniformRank c = rw (c.in-Some.ensures, c.in-UniformRank.ensures)
    c.long_uniform_reason.ensures

pub returns-in-GraphicRank : goal.returns-in-GraphicRank
returns-in-GraphicRank c = rw (c.in-Some.ensures, c.in-GraphicRank.ensures) c.graphic_reason.ensures
