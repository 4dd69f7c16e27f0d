use Rattle.std.proofs.Common.{ap, ◌∙◌, ◌∷◌, [], ℤ}
use Rattle.sfm_lines.proofs.ReadLines.{kept-value, two-places}
use Rattle.sfm_lines.proofs.terms.cut_term.Goals as goal

pub returns : goal.returns
returns c = λ parts. record {
  same_places = c.new.ensures.places ∙ two-places c.args.places.now _ _ c.requires.counts.1;
  made = ap (λ (a : ℤ). a ∷ []) c.new.ensures.number
      ∙ kept-value c.args.values.now c.requires.counts.0 c.requires.small;
}
