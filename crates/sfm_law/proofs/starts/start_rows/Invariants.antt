use Rattle.std.proofs.Common.{◌≡◌, map, take}
use Rattle.sfm_law.proofs.starts.start_rows.Given as goal

abbrev pub invariant-loop-term : goal.invariant-loop-term
invariant-loop-term g l = l.rows ≡ map (λ term. g.T.Term.start_of term l.q)
    (take l.term-index l.terms)
