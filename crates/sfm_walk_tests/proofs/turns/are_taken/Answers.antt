use Rattle.sfm_walk.proofs.Starting.{sizes_bounded}
use Rattle.sfm_walk_tests.proofs.turns.are_taken.Goals as goal

pub start_rows-requires-clause-bounded : goal.start_rows-requires-clause-bounded
start_rows-requires-clause-bounded g c =
    let t = g.T.Term in
    let m = g.met.T.Term in
    sizes_bounded t.places t.value_of t.size_of m.submodular m.bounded _ c.args.terms.now
    c.requires.bounded
