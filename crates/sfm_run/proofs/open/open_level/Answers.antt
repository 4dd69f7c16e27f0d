use Rattle.sfm_run.proofs.Opening.{opens_level, opens_level_faulty}
use Rattle.sfm_run.proofs.open.open_level.Goals as goal

pub returns-in-Ok-clause-opened : goal.returns-in-Ok-clause-opened
returns-in-Ok-clause-opened g c =
    opens_level c.args.file.now _ _ c.in_ok-reader.reader c.level_in.result
    c.in_ok-reader.ensures.kept c.in_ok-reader.ensures.read
    (λ text stands. c.level_in.ensures.told text (c.in-Ok.ensures.read text stands)
    (c.in-Ok.ensures.numbered text stands))

pub returns-in-Err-Refused-clause-opened : goal.returns-in-Err-Refused-clause-opened
returns-in-Err-Refused-clause-opened g c =
    opens_level_faulty c.args.file.now _ _ c.in_ok-reader.reader c.in-Err-Refused.line
    c.in-Err-Refused.reason c.faulty.result c.in_ok-reader.ensures.kept c.in_ok-reader.ensures.read
    (λ text stands. rw c.in-Err-Refused.field-0-is at
    (c.in-Err-Refused.ensures.refused text stands)) c.faulty.ensures
