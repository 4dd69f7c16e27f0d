use Rattle.std.proofs.Common.{◌≡◌, ◌∙◌, length, sym, ap}
use Rattle.sfm_spec.specs.Sets.{empty_set}
use Rattle.sfm_graphic.specs.Ends.{edges_of}
use Rattle.sfm_graphic.specs.Runs.{taken-places}
use Rattle.sfm_graphic.proofs.Labels.{length-edges}
use Rattle.sfm_graphic.proofs.growing.grow.Goals.{After-deref_mut}
use Rattle.sfm_graphic.proofs.growing.grow.Goals as goal

-- the labels are the vertices at first
are : (c : After-deref_mut) → c.deref_mut.result.now ≡ c.args.ends.now
are c = c.deref_mut.ensures.value ∙ c.in_ok-labels.ensures.items

pub take_each-requires-clause-places : goal.take_each-requires-clause-places
take_each-requires-clause-places c =
    rw (are (goal.at.take_each-requires-clause-places c).After-deref_mut) c.requires

pub take_each-requires-clause-none : goal.take_each-requires-clause-none
take_each-requires-clause-none c = c.in_ok-t.ensures ∙ ap empty_set c.len.ensures

pub returns-clause-taken : goal.returns-clause-taken
returns-clause-taken c = rw (are (goal.at.returns-clause-taken c).After-deref_mut) at
    c.take_each.ensures

pub returns-clause-places : goal.returns-clause-places
returns-clause-places c =
    let ends = c.args.ends.now in
    let t = rw (are (goal.at.returns-clause-places c).After-deref_mut) at c.take_each.ensures in
    let ks : length c.args.s.now ≡ length (edges_of ends) = c.requires ∙ sym (length-edges ends) in
    ap length t ∙ (taken-places (edges_of ends) c.args.s.now ks (length ends) ∙ sym ks)
