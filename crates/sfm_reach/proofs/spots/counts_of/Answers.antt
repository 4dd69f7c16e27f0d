use Rattle.sfm_spec.specs.Sets.{IsPlaced}
use Rattle.sfm_law.proofs.Lists.{all-at}
use Rattle.sfm_reach.proofs.spots.counts_of.Goals as goal

pub count_places-requires : goal.count_places-requires
count_places-requires g c =
    rw (c.deref_mut.ensures.value, c.loop-term.invariant, c.elements.ensures)
    (all-at (IsPlaced c.args.n) g.T.Term.places c.args.terms.now c.loop-term.term-index
    c.term-item.result c.loop-term-test.true c.term-item.is c.requires)
