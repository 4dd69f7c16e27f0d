use Rattle.sfm_kind.proofs.Meanings.{kinds-mean}
use Rattle.sfm_edit.specs.EditLines.{editing_of}
use Rattle.sfm_run.proofs.open.edits_in.Goals as goal

pub returns-in-Ok : goal.returns-in-Ok
returns-in-Ok c = (
  editing_of c.in-Ok.edited,
  c.in-Ok.ensures.edited,
  (c.into_instance.ensures, rw c.into_instance.ensures (kinds-mean c.in-Ok.edited.instance.terms)),
)
