use Rattle.std.proofs.Common.{ap, ◌∙◌, ◌∷◌, [], ℤ}
use Rattle.sfm_lines.proofs.ReadLines.{kept-value}
use Rattle.sfm_lines.proofs.terms.cover_term.Goals as goal

pub returns : goal.returns
returns c = λ parts. record {
  same_places = c.in_ok-cover.ensures.places;
  made = ap (λ (a : ℤ). a ∷ []) c.in_ok-cover.ensures.number
      ∙ kept-value c.args.values.now c.requires.counts.1 c.requires.small;
}
