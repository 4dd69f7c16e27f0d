use Rattle.std.proofs.Common.{length, FitsSigned}
use Rattle.std.proofs.lemmas.Int.{to_z-of_z}
use mir.Syntax.{w128}
use Rattle.sfm_spec.specs.Families.{meanings}
use Rattle.sfm_law.specs.Rest.{IsRest}
use Rattle.sfm_exchange.proofs.ClaimedGraphs.{are_terms, low}
use Rattle.sfm_exchange.proofs.Still.{over_word, ready}
use Rattle.sfm_exchange.proofs.Minimisers.{least_walked, under_are}
use Rattle.sfm_walk.proofs.least.least_minimiser.Given as given
use Rattle.sfm_walk.proofs.least.least_minimiser.Goals as goal
use Rattle.sfm_walk.proofs.least.least_minimiser.Goals.{After-signs_of-signs}

-- z is what the bases leave of the shift
is_rest : (g : given.Over) (c : After-signs_of-signs g)
    → let t = g.T.Term in IsRest (meanings t.places t.value_of c.args.terms.now) c.args.shift.now
    c.args.graph.now.bases c.args.z.now
is_rest g c = let (places, exact) = c.requires.rest in record {
  places = places;
  exact = λ e l. exact e (rw (← places) l);
}

pub signs_of-signs-requires : goal.signs_of-signs-requires
signs_of-signs-requires g c = rw (c.as_slice.ensures, c.requires.rest.0)
    c.requires.graph.bounded.few

pub walked_from-requires-clause-ready : goal.walked_from-requires-clause-ready
walked_from-requires-clause-ready g c =
    let fq : FitsSigned w128 c.args.q = c.ranges.q in
    simp to_z-of_z (ready c.requires.graph c.requires.small)

pub walked_from-requires-clause-firsts : goal.walked_from-requires-clause-firsts
walked_from-requires-clause-firsts g c = λ e one.
    let signed = rw c.as_slice.ensures at c.signs_of-signs.ensures in
    let (l, under) = (signed.below e).0 one in
    rw (c.requires.graph.are_spots.count, ← c.requires.rest.0) l

pub returns-clause-graph : goal.returns-clause-graph
returns-clause-graph g c = over_word c.requires.graph c.in_ok-walked.ensures.still.claimed

pub returns-clause-least : goal.returns-clause-least
returns-clause-least g c =
    let t = g.T.Term in
    let m = g.met.T.Term in
    let fq : FitsSigned w128 c.args.q = c.ranges.q in
    let h = c.requires.graph in
    let rest = is_rest g (goal.at.returns-clause-least g c).After-signs_of-signs in
    let signed = rw c.as_slice.ensures at c.signs_of-signs.ensures in
    let walked = rw h.are_spots.count at (simp to_z-of_z at c.in_ok-walked.ensures.walked) in
    let ts = meanings t.places t.value_of c.args.terms.now in
    let n = length c.args.shift.now in
    let bases = c.args.graph.now.bases in
    least_walked ts bases n c.args.q (low h) (are_terms h m.family m.submodular) h.are_bases
    c.args.shift.now c.requires.proves c.signs_of-signs.result.under c.in_ok-walked.walked
    (under_are ts n bases rest.places rest signed)
    c.in_ok-least.least c.in_ok-least.ensures walked
