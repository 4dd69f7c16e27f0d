use Rattle.sfm_text.proofs.Standing.{count-long, finish-faulty, finish-leads}
use Rattle.sfm_text.proofs.reader.Reader.close.Goals as goal

pub returns-then-count-gt-TEXT_LIMIT-clause-refused
    : goal.returns-then-count-gt-TEXT_LIMIT-clause-refused
returns-then-count-gt-TEXT_LIMIT-clause-refused c =
    λ text stands. count-long c.args.self.now text c.if-count-gt-TEXT_LIMIT.true stands

pub returns-in-Some-clause-refused : goal.returns-in-Some-clause-refused
returns-in-Some-clause-refused c = λ text stands. finish-faulty c.args.self.now c.read_end.new.self
    text c.in-Some.fault c.if-count-gt-TEXT_LIMIT.false (c.in_ok-read_end.ensures.read text)
    c.in-Some.is stands

pub returns-in-None-clause-read : goal.returns-in-None-clause-read
returns-in-None-clause-read c = λ text stands. finish-leads c.args.self.now c.read_end.new.self text
    c.if-count-gt-TEXT_LIMIT.false (c.in_ok-read_end.ensures.read text) c.in-None.is stands
