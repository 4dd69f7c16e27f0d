use Rattle.sfm_run.proofs.Opening.{opens}
use Rattle.sfm_run.proofs.open.open_instance.Goals as goal

pub returns-in-Ok : goal.returns-in-Ok
returns-in-Ok g c = opens c.args.file.now _ _ c.in_ok-reader.reader c.in-Ok.instance
    c.in_ok-reader.ensures.kept c.in_ok-reader.ensures.read c.in-Ok.ensures.read
