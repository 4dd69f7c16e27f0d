use Rattle.std.proofs.Common.{subst}
use Rattle.sfm_lines.specs.RankLines.{BreaksRankLaw}
use Rattle.sfm_lines.specs.ReadParts.{parts_of}
use Rattle.sfm_lines.specs.declared.word.RankKind.{RankKind}
use Rattle.sfm_lines.specs.declared.word.TermWord.TheVariants.{RankWord}
use Rattle.sfm_lines.proofs.ReadLines.{given, uniform-two, laminar-each, graphic-one, graphic-two, graphic-each}
use Rattle.sfm_lines.proofs.terms.rank_term.Goals as goal

pub uniform_term-requires-clause-given : goal.uniform_term-requires-clause-given
uniform_term-requires-clause-given c = given RankWord _ _ _ c.requires.read

pub uniform_term-requires-clause-two : goal.uniform_term-requires-clause-two
uniform_term-requires-clause-two c = uniform-two _ _ _ c.requires.read c.in-UniformRank.is

pub laminar_term-requires-clause-given : goal.laminar_term-requires-clause-given
laminar_term-requires-clause-given c = given RankWord _ _ _ c.requires.read

pub laminar_term-requires-clause-each : goal.laminar_term-requires-clause-each
laminar_term-requires-clause-each c = laminar-each _ _ _ c.requires.read c.in-LaminarRank.is

pub graphic_term-requires-clause-given : goal.graphic_term-requires-clause-given
graphic_term-requires-clause-given c = given RankWord _ _ _ c.requires.read

pub graphic_term-requires-clause-one : goal.graphic_term-requires-clause-one
graphic_term-requires-clause-one c = graphic-one _ _ _ c.requires.read c.in-GraphicRank.is

pub graphic_term-requires-clause-two : goal.graphic_term-requires-clause-two
graphic_term-requires-clause-two c = graphic-two _ _ _ c.requires.read c.in-GraphicRank.is

pub graphic_term-requires-clause-each : goal.graphic_term-requires-clause-each
graphic_term-requires-clause-each c = graphic-each _ _ _ c.requires.read c.in-GraphicRank.is

pub returns-in_ok-uniform_term-in-UniformRank : goal.returns-in_ok-uniform_term-in-UniformRank
returns-in_ok-uniform_term-in-UniformRank c =
    let parts = parts_of c.args.parts.now in (
      c.in_ok-uniform_term-in-UniformRank.ensures parts c.in-UniformRank.is,
      λ broken. subst (λ (rank : RankKind). BreaksRankLaw rank parts c.args.values.now)
          c.in-UniformRank.is broken,
    )
