use Rattle.sfm_check.proofs.KeptSlopes.{ascends_by}
use Rattle.sfm_check.proofs.values.ascends.Goals as goal

pub returns-else-k-eq0 : goal.returns-else-k-eq0
returns-else-k-eq0 c = λ true. ascends_by c.args.breaks.now c.args.k c.index-breaks-k.result
    c.index-breaks-k-else-k-eq0.result c.if-k-eq0.false c.requires c.index-breaks-k.is
    c.index-breaks-k-else-k-eq0.is (c.is_lower.ensures true)
