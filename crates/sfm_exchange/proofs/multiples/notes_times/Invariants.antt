-- the notes of the first terms fit, and the others are as they were
use Rattle.std.proofs.Common.{◌*ℤ◌}
use Rattle.sfm_reach.specs.Reach.{kept_fits}
use Rattle.sfm_exchange.specs.Scaled.{rows_times}
use Rattle.sfm_exchange.proofs.Notes.{AreNotesTo}
use Rattle.sfm_exchange.proofs.multiples.notes_times.Given as goal

abbrev pub invariant-loop-i : goal.invariant-loop-i
invariant-loop-i g l = AreNotesTo (kept_fits g.T.Term.fits) (l.m *ℤ l.other.q) l.terms l.i
    l.notes.items (rows_times l.m l.other.graph.now.bases)
