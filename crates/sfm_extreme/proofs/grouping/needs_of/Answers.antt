use Rattle.sfm_extreme.proofs.grouping.needs_of.Goals as goal

pub bounds-rows-firsts : goal.bounds-rows-firsts
bounds-rows-firsts c = c.requires.inside c.args.i c.requires.block
