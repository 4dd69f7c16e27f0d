use Rattle.std.proofs.Common.{◌≡◌, ◌∷◌, []}
use Rattle.sfm_kind.specs.declared.kind.Kind.TheVariants.{Uniform}
use Rattle.sfm_lines.specs.declared.word.RankKind.TheVariants.{UniformRank}
use Rattle.sfm_lines.proofs.ReadLines.{kept-two}
use Rattle.sfm_lines.proofs.RankTerms.{of-rank}
use Rattle.sfm_lines.proofs.uniform_line.uniform_term.Goals as goal

pub returns : goal.returns
returns c = λ parts rank.
    let same : c.in_ok-uniform.uniform.w ∷ c.in_ok-uniform.uniform.cap ∷ []
    ≡ c.args.values.now = rw (c.in_ok-uniform.ensures.number, c.in_ok-uniform.ensures.cap)
    (kept-two c.args.values.now c.requires.two c.requires.given.small) in
    record {
      same_places = c.in_ok-uniform.ensures.places;
      made = of-rank UniformRank parts c.args.values.now (Uniform c.in_ok-uniform.uniform) rank
          same;
    }
