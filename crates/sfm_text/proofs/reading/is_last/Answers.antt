use Rattle.sfm_lines.specs.Lines.{tokens_of}
use Rattle.sfm_text.proofs.Adding.{last-by}
use Rattle.sfm_text.proofs.reading.is_last.Goals as goal

pub returns-in-Some : goal.returns-in-Some
returns-in-Some c = last-by (tokens_of c.args.line.now) c.in-Some.first.now c.is_end.result
    c.in-Some.ensures c.is_end.ensures
