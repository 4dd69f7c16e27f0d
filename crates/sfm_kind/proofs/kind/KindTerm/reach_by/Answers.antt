-- The place that is asked leads at its term to the same one.
use Rattle.sfm_kind.proofs.kind.KindTerm.reach_by.Goals as goal

pub reach_by-requires-clause-leads : goal.reach_by-requires-clause-leads
reach_by-requires-clause-leads c = rw c.in-Laminar.is at c.requires.leads

pub reach_by-requires-in-Graphic-note-clause-leads
    : goal.reach_by-requires-in-Graphic-note-clause-leads
reach_by-requires-in-Graphic-note-clause-leads c = rw c.in-Graphic.is at c.requires.leads

pub reach_by-requires-in-Transversal-note-clause-leads
    : goal.reach_by-requires-in-Transversal-note-clause-leads
reach_by-requires-in-Transversal-note-clause-leads c = rw c.in-Transversal.is at c.requires.leads

pub reach_by-requires-in-Concave-note-clause-leads
    : goal.reach_by-requires-in-Concave-note-clause-leads
reach_by-requires-in-Concave-note-clause-leads c = rw c.in-Concave.is at c.requires.leads
