-- The term of a rank line, by the rank that the line means.
use Rattle.std.proofs.Common.{◌≡◌, List, ℤ, sym, subst}
use Rattle.sfm_kind.specs.declared.kind.Kind.{Kind}
use Rattle.sfm_lines.specs.declared.word.RankKind.{RankKind}
use Rattle.sfm_lines.specs.declared.word.TermWord.TheVariants.{RankWord}
use Rattle.sfm_lines.specs.Parts.{LineParts}
use Rattle.sfm_lines.specs.RankLines.{IsRankMadeOf}
use Rattle.sfm_lines.specs.Words.{IsMadeOf}

pub of-rank : (rank : RankKind) (parts : LineParts) (values : List ℤ) (term : Kind)
    → parts.rank ≡ rank → IsRankMadeOf rank parts values term → IsMadeOf RankWord parts values term
of-rank rank parts values term is made = subst (λ (r : RankKind). IsRankMadeOf r parts values term)
    (sym is) made
