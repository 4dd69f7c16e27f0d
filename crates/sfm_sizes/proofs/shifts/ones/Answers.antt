use Rattle.sfm_sizes.proofs.Weighing.{ones-are-sizes}
use Rattle.sfm_sizes.proofs.shifts.ones.Goals as goal

pub returns-clause-sizes : goal.returns-clause-sizes
returns-clause-sizes c = rw (c.in_ok-sizes.ensures.items_if_clones_equal (λ y e. e))
    (ones-are-sizes c.args.n c.requires.few)
