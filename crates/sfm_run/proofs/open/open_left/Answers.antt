use Rattle.sfm_run.proofs.Opening.{opens_left}
use Rattle.sfm_run.proofs.open.open_left.Goals as goal

pub returns-in-Ok-clause-opened : goal.returns-in-Ok-clause-opened
returns-in-Ok-clause-opened g c =
    opens_left c.args.file.now _ _ c.in_ok-reader.reader c.in-Ok.numbered
    c.in_ok-reader.ensures.kept c.in_ok-reader.ensures.read
    c.in-Ok.ensures.read c.in-Ok.ensures.numbered

pub returns-in-Ok-clause-counted : goal.returns-in-Ok-clause-counted
returns-in-Ok-clause-counted g c =
    let (text, stands, named, read) = c.in_ok-reader.ensures.read in
    c.in-Ok.ensures.counted text stands
