use Rattle.std.proofs.Common.{◌≡◌, codes}
use Rattle.std.specs.List.{AllZip}
use Rattle.sfm_kind.specs.Meanings.{IsMeaningOf}
use Rattle.sfm_edit.specs.Edits.{edits_form}
use Rattle.sfm_due.specs.Meanings.{question_of}
use Rattle.sfm_run.proofs.Opening.{opens_long}
use Rattle.sfm_run.proofs.open.open_edits.Goals as goal

pub returns-in-None : goal.returns-in-None
returns-in-None g c = opens_long question_of (codes "edits") (edits_form c.args.instance)
    (λ e edited. (edited.instance ≡ e.instance) × AllZip IsMeaningOf e.instance.terms edited.meant)
    c.args.file.now _ _ c.faulty.result c.in_ok-text.ensures.kept
    (rw c.in-None.is at c.in_ok-text.ensures.read) c.faulty.ensures
