use Rattle.std.proofs.Common.{◌∙◌, length, sym}
use Rattle.sfm_matroid.specs.TransversalLaws.{transversal-greedy}
use Rattle.sfm_matroid.proofs.AnyRank.{start_passed}
use Rattle.sfm_matroid.proofs.Kept.{transversal_kept}
use Rattle.sfm_matroid.proofs.transversal.TransversalTerm.start.Goals as goal

pub write_start-requires-clause-entries : goal.write_start-requires-clause-entries
write_start-requires-clause-entries c = c.requires.entries ∙ sym (transversal_kept c.args.self.now)

pub returns-clause-start : goal.returns-clause-start
returns-clause-start c = let s = c.args.self.now in start_passed c.args.q s.w c.ranges.q s.given _ _
    s.based _ c.write_start.ensures

pub returns-clause-greedy : goal.returns-clause-greedy
returns-clause-greedy c = let s = c.args.self.now in let e = returns-clause-start c in rw e
    (transversal-greedy (length s.places) s.w s.entries s.same_count s.low c.args.q)
