use Rattle.sfm_slope.proofs.breakpoints.partition_with.Goals as goal

pub sections-requires-clause-search : goal.sections-requires-clause-search
sections-requires-clause-search g c = c.in_ok-found.ensures.search

pub sections-requires-clause-ranges : goal.sections-requires-clause-ranges
sections-requires-clause-ranges g c = rw c.deref.ensures.value c.in_ok-found.ensures.ranges

pub returns-clause-slopes : goal.returns-clause-slopes
returns-clause-slopes g c = rw (c.in_ok-breaks.ensures.marks, c.deref.ensures.value)
    c.in_ok-found.ensures.slopes

pub returns-clause-bases : goal.returns-clause-bases
returns-clause-bases g c = c.in_ok-breaks.ensures.bases
