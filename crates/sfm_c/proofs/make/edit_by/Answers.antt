use Rattle.std.proofs.Common.{codes, refl}
use Rattle.sfm_kind.proofs.Meanings.{kinds-mean}
use Rattle.sfm_text.specs.Language.{IsFaultIn}
use Rattle.sfm_side.specs.Side.{side_language}
use Rattle.sfm_edit.specs.Edits.{edits_form}
use Rattle.sfm_edit.specs.EditLines.{editing_of}
use Rattle.sfm_due.specs.Due.{IsSolved}
use Rattle.sfm_due.specs.Meanings.{question_of}
use Rattle.sfm_c.specs.Calls.{IsDone, LeadsTo}
use Rattle.sfm_c.proofs.Making.{stands}
use Rattle.sfm_c.proofs.make.edit_by.Goals as goal

pub returns-in-Ok : goal.returns-in-Ok
returns-in-Ok c = stands (LeadsTo (question_of c.args.instance) c.args.edits.now) (codes "edits")
    (IsFaultIn (side_language (edits_form c.args.instance)) c.args.edits.now)
    (λ edited. IsDone (IsSolved edited)) (question_of c.in-Ok.edited.instance) (
      editing_of c.in-Ok.edited,
      refl,
      kinds-mean c.in-Ok.edited.instance.terms,
      c.in-Ok.ensures.edited,
    ) c.due_to_solve.result c.due_to_solve.ensures
