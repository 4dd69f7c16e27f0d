use Rattle.std.proofs.Common.{length, ap, sym, ◌∙◌}
use Rattle.sfm_spec.proofs.Sums.{length-union}
use Rattle.sfm_assign.proofs.gather.put_told.Goals as goal

pub returns-in-Full-clause-places : goal.returns-in-Full-clause-places
returns-in-Full-clause-places c = ap length c.union_with.ensures
    ∙ length-union c.args.to.now c.in-Full.set (sym (c.requires c.in-Full.set c.in-Full.is))
