use Rattle.std.proofs.Common.{◌∙◌}
use Rattle.sfm_lines.proofs.ReadLines.{two-places}
use Rattle.sfm_lines.proofs.terms.need_term.Goals as goal

pub returns : goal.returns
returns c = λ parts values. record {
  same_places = c.new.ensures
      ∙ two-places c.args.places.now _ _ c.requires.1.counts.1;
  made = tt;
}
