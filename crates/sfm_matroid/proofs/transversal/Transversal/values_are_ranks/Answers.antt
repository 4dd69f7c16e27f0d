use Rattle.std.proofs.Common.{length}
use Rattle.sfm_matroid.specs.TransversalLaws.{transversal-function}
use Rattle.sfm_matroid.proofs.transversal.Transversal.values_are_ranks.Goals as goal

pub returns : goal.returns
returns c = let s = c.args.self.now in transversal-function (length s.places) s.w s.entries
    s.same_count
