use Rattle.std.proofs.Common.{◌∙◌, arith}
use Rattle.sfm_spec.specs.Families.{meanings}
use Rattle.sfm_spec.proofs.Walks.{bases-at}
use Rattle.sfm_law.specs.Rest.{IsRest}
use Rattle.sfm_law.proofs.Lists.{length-bases, length-meanings}
use Rattle.sfm_exchange.specs.Signs.{AreSigns}
use Rattle.sfm_exchange.proofs.Minimisers.{back_in, link_in, over_in, under_in}
use Rattle.sfm_exchange.proofs.WholeGraphs.{unions_count}
use Rattle.sfm_extreme.proofs.reading.read_graph.Given as given
use Rattle.sfm_extreme.proofs.reading.read_graph.Goals as goal
use Rattle.sfm_extreme.proofs.reading.read_graph.Goals.{After-signs_of-signs}

-- z is what the bases leave of the shift
rest : (g : given.Over) (c : After-signs_of-signs g)
    → let t = g.T.Term in IsRest (meanings t.places t.value_of c.args.terms.now) c.args.shift.now
    c.args.graph.now.bases c.in_ok-z.z.items
rest g c = c.in_ok-z.ensures

-- and the signs are those of z
signed : (g : given.Over) (c : After-signs_of-signs g)
    → AreSigns c.in_ok-z.z.items c.signs_of-signs.result
signed g c = rw c.deref.ensures.value at c.signs_of-signs.ensures

pub rest_of-requires-clause-placed : goal.rest_of-requires-clause-placed
rest_of-requires-clause-placed g c = c.requires.whole.1.bounded.placed

pub rest_of-requires-clause-few : goal.rest_of-requires-clause-few
rest_of-requires-clause-few g c = c.requires.whole.1.bounded.few_places

pub rest_of-requires-clause-small : goal.rest_of-requires-clause-small
rest_of-requires-clause-small g c = c.requires.small

pub rest_of-requires-clause-shifts : goal.rest_of-requires-clause-shifts
rest_of-requires-clause-shifts g c = c.requires.shifts

pub rest_of-requires-clause-rows : goal.rest_of-requires-clause-rows
rest_of-requires-clause-rows g c =
    let t = g.T.Term in
    let (q, h) = c.requires.whole in
    length-bases q (meanings t.places t.value_of c.args.terms.now) c.args.graph.now.bases
    h.exact.are_bases ∙ length-meanings t.places t.value_of c.args.terms.now

pub rest_of-requires-clause-entries : goal.rest_of-requires-clause-entries
rest_of-requires-clause-entries g c = λ i l.
    let t = g.T.Term in
    let (q, h) = c.requires.whole in
    (bases-at q (meanings t.places t.value_of c.args.terms.now) c.args.graph.now.bases i
    h.exact.are_bases (rw (length-meanings t.places t.value_of c.args.terms.now) l)).0

pub signs_of-signs-requires : goal.signs_of-signs-requires
signs_of-signs-requires g c = let few = c.requires.whole.1.bounded.few in rw (
  c.deref.ensures.value,
  c.in_ok-z.ensures.places,
) few

pub reached_from-reached-requires-clause-few : goal.reached_from-reached-requires-clause-few
reached_from-reached-requires-clause-few g c =
    let h = c.requires.whole.1 in rw (c.deref-2.ensures.value, unions_count h) h.bounded.few

pub reached_from-reached-requires-clause-firsts : goal.reached_from-reached-requires-clause-firsts
reached_from-reached-requires-clause-firsts g c =
    let m = g.met.T.Term in
    let at = (goal.at.reached_from-reached-requires-clause-firsts g c).After-signs_of-signs in
    rw c.deref-2.ensures.value (under_in c.requires.whole.1 m.family m.submodular (rest g at).places
    (rest g at) (signed g at))

pub reached_from-reached-requires-clause-links : goal.reached_from-reached-requires-clause-links
reached_from-reached-requires-clause-links g c =
    let m = g.met.T.Term in
    rw c.deref-2.ensures.value (link_in c.requires.whole.1 m.family m.submodular)

pub reached_from-leading-requires-clause-few : goal.reached_from-leading-requires-clause-few
reached_from-leading-requires-clause-few g c =
    let count = c.requires.whole.1.exact.are_turned.count in rw c.deref-3.ensures.value
    (omega (arith, count))

pub reached_from-leading-requires-clause-firsts : goal.reached_from-leading-requires-clause-firsts
reached_from-leading-requires-clause-firsts g c =
    let m = g.met.T.Term in
    let at = (goal.at.reached_from-leading-requires-clause-firsts g c).After-signs_of-signs in
    rw c.deref-3.ensures.value (over_in c.requires.whole.1 m.family m.submodular (rest g at).places
    (rest g at) (signed g at))

pub reached_from-leading-requires-clause-links : goal.reached_from-leading-requires-clause-links
reached_from-leading-requires-clause-links g c =
    let m = g.met.T.Term in
    rw c.deref-3.ensures.value (back_in c.requires.whole.1 m.family m.submodular)

pub returns-clause-reading : goal.returns-clause-reading
returns-clause-reading g c =
    let at = (goal.at.returns-clause-reading g c).After-signs_of-signs in
    λ q h. record {
      whole = h;
      count = (rest g at).places;
      is_rest = rest g at;
      signed = signed g at;
      reached_are = rw c.deref-2.ensures.value at c.reached_from-reached.ensures;
      leading_are = rw c.deref-3.ensures.value at c.reached_from-leading.ensures;
    }
