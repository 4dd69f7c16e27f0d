use Rattle.sfm_lines.proofs.Members.{member-in, member-out}
use Rattle.sfm_lines.proofs.groups.members.Goals as goal
use Rattle.sfm_lines.proofs.groups.members.Goals.{then-is_one_of+in_ok-push, else-is_one_of}

pub loop-e-preserved : goal.loop-e-preserved
loop-e-preserved c = elim c.if-is_one_of.branch [
  | then-is_one_of+in_ok-push w ↦ rw w.members-is
      (member-in c.args.elements.now c.args.names.now c.loop-e.e _ c.loop-e.members.items
      c.loop-e-test.true c.loop-e.invariant _ w.if-is_one_of.ensures w.in_ok-push.ensures.items)
  | else-is_one_of w ↦ rw w.members-is
      (member-out c.args.elements.now c.args.names.now c.loop-e.e _ c.loop-e.members.items
      c.loop-e-test.true c.loop-e.invariant w.if-is_one_of.ensures)
]
