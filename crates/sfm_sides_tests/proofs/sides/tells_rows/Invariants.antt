-- the note fits the base
use Rattle.sfm_sides_tests.proofs.sides.tells_rows.Given as goal

abbrev pub invariant-loop-u : goal.invariant-loop-u
invariant-loop-u g l = g.T.Term.fits l.term l.note l.at.q l.at.x.now
