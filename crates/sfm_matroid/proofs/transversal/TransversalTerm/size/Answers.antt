use Rattle.sfm_matroid.proofs.Kept.{transversal_kept}
use Rattle.sfm_matroid.proofs.Passed.{weigh_passed}
use Rattle.sfm_matroid.proofs.transversal.TransversalTerm.size.Goals as goal

pub worth-requires : goal.worth-requires
worth-requires c = let s = c.args.self.now in weigh_passed s.w s.basis s.given s.low
    (rw (transversal_kept s) s.few)
