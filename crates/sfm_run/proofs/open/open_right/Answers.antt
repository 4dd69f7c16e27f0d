use Rattle.sfm_pair.specs.Sides.{lined_of}
use Rattle.sfm_run.proofs.Opening.{is_lined, opens_right, opens_right_faulty}
use Rattle.sfm_run.proofs.open.open_right.Goals as goal

pub beside-requires-clause-right : goal.beside-requires-clause-right
beside-requires-clause-right g c =
    let (text, stands, named, read) = c.in_ok-reader.ensures.read in
    c.in-Ok.ensures.counted text stands

pub returns-in-Ok-clause-opened : goal.returns-in-Ok-clause-opened
returns-in-Ok-clause-opened g c = opens_right (lined_of c.args.left.now) c.args.file.now _ _
    c.in_ok-reader.reader c.beside.result c.in_ok-reader.ensures.kept c.in_ok-reader.ensures.read
    (λ text stands. c.beside.ensures.told text
    (is_lined text c.in-Ok.numbered (c.in-Ok.ensures.read text stands)
    (c.in-Ok.ensures.numbered text stands)))

pub returns-in-Err-Refused-clause-opened : goal.returns-in-Err-Refused-clause-opened
returns-in-Err-Refused-clause-opened g c =
    opens_right_faulty (lined_of c.args.left.now) c.args.file.now _ _ c.in_ok-reader.reader
    c.in-Err-Refused.line c.in-Err-Refused.reason c.faulty.result c.in_ok-reader.ensures.kept
    c.in_ok-reader.ensures.read
    (λ text stands. rw c.in-Err-Refused.field-0-is at
    (c.in-Err-Refused.ensures.refused text stands)) c.faulty.ensures
