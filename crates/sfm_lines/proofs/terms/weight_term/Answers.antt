use Rattle.sfm_lines.proofs.terms.weight_term.Goals as goal

pub returns : goal.returns
returns c = λ parts. record {
  same_places = c.in_ok-weight.ensures.places;
  made = c.in_ok-weight.ensures.weights;
}
