use Rattle.std.proofs.Common.{map}
use Rattle.sfm_spec.specs.Families.{meanings}
use Rattle.sfm_slope.proofs.Ones.{all_have_bases}
use Rattle.sfm_slope.proofs.breakpoints.partition.Goals as goal

pub ones-requires : goal.ones-requires
ones-requires g c = record { few = c.requires.bounded.few }

pub partition_by-requires-clause-sizes : goal.partition_by-requires-clause-sizes
partition_by-requires-clause-sizes g c = rw c.deref.ensures.value c.in_ok-sizes.ensures.sizes

pub returns-clause-slopes : goal.returns-clause-slopes
returns-clause-slopes g c =
    rw (c.deref.ensures.value, c.in_ok-sizes.ensures.ones) at c.in_ok-breaks.ensures.slopes

pub returns-clause-bases : goal.returns-clause-bases
returns-clause-bases g c =
    let t = g.T.Term in
    let h = rw (c.deref.ensures.value, c.in_ok-sizes.ensures.ones) at
    c.in_ok-breaks.ensures.bases in
    all_have_bases (meanings t.places t.value_of c.args.terms.now)
    (λ q. map (λ x. t.start_of x q) c.args.terms.now) c.args.n _ h
