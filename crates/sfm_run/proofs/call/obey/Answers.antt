use Rattle.sfm_words.specs.Command.{command_of}
use Rattle.sfm_run.specs.Tasks.{task_of}
use Rattle.sfm_run.proofs.Ending.{ends_early, ends_unwritten, ends_written}
use Rattle.sfm_run.proofs.call.obey.Goals as goal

pub returns-in-Err : goal.returns-in-Err
returns-in-Err g c = ends_early (task_of (command_of c.args.command)) _ _ _ c.in-Err.status
    c.in-Err.ensures

pub returns-in-Ok-write_all : goal.returns-in-Ok-write_all
returns-in-Ok-write_all g c = ends_written (task_of (command_of c.args.command)) _ _ _ _ c.in-Ok.due
    c.in-Ok-write_all.field-0 c.in-Ok.ensures
    (rw c.as_slice.ensures.value at c.in-Ok-write_all.ensures)

pub returns : goal.returns
returns g c = ends_unwritten (task_of (command_of c.args.command)) _ _ _ _ c.in-Ok.due
    c.in-Err-write_all.field-0 c.in-Ok.ensures
    (rw c.as_slice.ensures.value at c.in-Err-write_all.ensures)
