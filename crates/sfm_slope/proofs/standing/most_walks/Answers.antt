use Rattle.sfm_slope.proofs.Reached.{few_is, few_small}
use Rattle.sfm_slope.proofs.standing.most_walks.Goals as goal

pub returns-clause-is : goal.returns-clause-is
returns-clause-is c = few_is c.args.n c.args.m

pub returns-clause-small : goal.returns-clause-small
returns-clause-small c = rw (few_is c.args.n c.args.m)
    (few_small c.args.n c.args.m c.requires.places c.requires.terms)
