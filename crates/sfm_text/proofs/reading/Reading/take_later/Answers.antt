-- A line that is not the last is judged as a term line.
use Rattle.sfm_text.proofs.Adding.{line-judged}
use Rattle.sfm_text.proofs.reading.Reading.take_later.Goals as goal

pub returns-then-not-is_last : goal.returns-then-not-is_last
returns-then-not-is_last c = rw c.requires.stage
    (line-judged c.args.self.now.instance c.add_line.new.instance c.args.line.now
    c.if-not-is_last.ensures c.add_line.result c.add_line.ensures.judged)
