-- one for each term so far
use Rattle.sfm_reach.proofs.Noting.{AreSizedTo}
use Rattle.sfm_reach.proofs.reach.blank_rows.Given as goal

abbrev pub invariant-loop-term : goal.invariant-loop-term
invariant-loop-term g l = let t = g.T.Term in AreSizedTo t.places l.terms l.term-index l.rows.items
