use Rattle.sfm_lines.proofs.term_line.number_for.Goals as goal

pub returns : goal.returns
returns c = rw c.text_version.ensures at c.number_in.ensures
