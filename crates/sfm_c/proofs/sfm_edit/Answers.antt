use Rattle.sfm_c.specs.Calls.{IsDueToEdit}
use Rattle.sfm_c.proofs.Making.{gives}
use Rattle.sfm_c.proofs.sfm_edit.Goals as goal

pub returns : goal.returns
returns c = gives (IsDueToEdit c.args.text.now c.args.edits.now) c.make_edit.result _ c.give.result
    c.make_edit.ensures c.give.ensures
