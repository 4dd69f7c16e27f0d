-- The place that is asked leads at its term to the same one.
use Rattle.sfm_sides.proofs.side.SideTerm.reach_by.Goals as goal

pub reach_by-requires-clause-leads : goal.reach_by-requires-clause-leads
reach_by-requires-clause-leads c = rw c.in-Left.is at c.requires.leads

pub reach_by-requires-in-Right-note-clause-leads : goal.reach_by-requires-in-Right-note-clause-leads
reach_by-requires-in-Right-note-clause-leads c = rw c.in-Right.is at c.requires.leads
