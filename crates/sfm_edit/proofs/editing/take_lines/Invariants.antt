use Rattle.std.proofs.Common.{◌≡◌, length}
use Rattle.sfm_side.specs.Frame.{IsReadTo, left_of, text_in}
use Rattle.sfm_edit.specs.Edits.{edits_form}
use Rattle.sfm_edit.specs.EditLines.{editing_of}
use Rattle.sfm_edit.specs.Origins.{AreOrigins}
use Rattle.sfm_edit.proofs.editing.take_lines.Given as goal

abbrev pub invariant-loop-line : goal.invariant-loop-line
invariant-loop-line l = record {
  read : IsReadTo (edits_form l.initial.edited.instance) l.text (left_of l.frame)
      (editing_of l.edited);
  whole : text_in l.frame ≡ l.text;
  names : l.edited.instance.names ≡ l.initial.edited.instance.names;
  origins : AreOrigins l.initial.edited.instance.terms l.edited.instance.terms l.edited.kept;
}

abbrev pub decreases-loop-line : goal.decreases-loop-line
decreases-loop-line l = length (left_of l.frame)
