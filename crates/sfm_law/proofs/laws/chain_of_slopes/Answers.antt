use Rattle.sfm_spec.proofs.Duality.{meanings-terms}
use Rattle.sfm_spec.proofs.Breakpoints.{low_breakpoints}
use Rattle.sfm_spec.proofs.Nest.{slopes_nest}
use Rattle.sfm_spec.proofs.Chain.{chain_exact, few_breakpoints}
use Rattle.sfm_law.proofs.laws.chain_of_slopes.Goals as goal

pub returns : goal.returns
returns g c =
    let r = c.requires in
    let fit = meanings-terms c.args._n g.T.Term.places g.T.Term.value_of g.met.T.Term.family
    g.met.T.Term.submodular c.args._terms.now r.placed in
    record {
      nested = slopes_nest _ c.args._n c.args._sizes.now fit r.sized r.positive;
      exact = chain_exact _ c.args._n c.args._sizes.now fit r.sized r.positive;
      few = few_breakpoints _ c.args._n c.args._sizes.now fit r.sized r.positive;
      low = low_breakpoints _ c.args._n c.args._sizes.now fit r.sized r.positive;
    }
