use Rattle.sfm_slope.proofs.breakpoints.partition_by.Goals as goal

pub partition_with-requires-clause-sizes : goal.partition_with-requires-clause-sizes
partition_with-requires-clause-sizes g c = rw c.requires.sizes.places c.requires.sizes

pub partition_with-requires-clause-search : goal.partition_with-requires-clause-search
partition_with-requires-clause-search g c = rw c.requires.sizes.places c.in_ok-search.ensures

pub returns-clause-slopes : goal.returns-clause-slopes
returns-clause-slopes g c = rw c.requires.sizes.places at c.in_ok-breaks.ensures.slopes

pub returns-clause-bases : goal.returns-clause-bases
returns-clause-bases g c = rw c.requires.sizes.places at c.in_ok-breaks.ensures.bases
