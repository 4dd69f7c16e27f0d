use Rattle.std.proofs.Common.{◌≡◌, ◌^◌, length, replicate, pos, ap, ◌∙◌, rules, arith}
use Rattle.std.proofs.lemmas.Int.{ints}
use Rattle.std.proofs.lemmas.List.{length-replicate}
use Rattle.sfm_spec.specs.Bounds.{IsAtMost}
use Rattle.sfm_exchange.specs.Graph.{IsWhole}
use Rattle.sfm_exchange.proofs.ClaimedGraphs.{shaped, whole_claimed}
use Rattle.sfm_exchange.proofs.Still.{ready}
use Rattle.sfm_walk.proofs.Starting.{even_small}
use Rattle.sfm_slope.proofs.search.Search.optimum.Given as given
use Rattle.sfm_slope.proofs.search.Search.optimum.Goals as goal
use Rattle.sfm_slope.proofs.search.Search.optimum.Goals.{In_ok-ask_claimed}

pub improve_from_start-requires-clause-shifts : goal.improve_from_start-requires-clause-shifts
improve_from_start-requires-clause-shifts g c =
    let none : IsAtMost (10 ^ 24)
    (pos 0) = record { low = omega (arith, ints); high = omega (arith, ints) } in
    let n = length c.args.self.now.shift.items in
    let same : c.deref.result.now ≡ replicate n (pos 0) = search rules in
    even_small c.deref.result.now n (pos 0) none c.requires.search.first.bounded.few same

pub ask_claimed-requires : goal.ask_claimed-requires
ask_claimed-requires g c = let o = c.in_ok-improve_from_start.ensures in record {
  ready = ready
      o.graph o.optimal.small;
}

-- the graph is whole over the places of the search
whole : (g : given.Over) (c : In_ok-ask_claimed g)
    → IsWhole g.T.Term c.args.terms.now (length c.args.self.now.shift.items) (pos 1)
    c.ask_claimed.new.graph
whole g c =
    let n = length c.args.self.now.shift.items in
    let same : c.deref.result.now ≡ replicate n (pos 0) = search rules in
    let count : length c.improve_from_start.new.graph.spots.items
    ≡ n = c.in_ok-improve_from_start.ensures.graph.are_spots.count
    ∙ (ap length same ∙ length-replicate n (pos 0)) in
    rw count at c.in_ok-ask_claimed.ensures.graph

pub returns-clause-search : goal.returns-clause-search
returns-clause-search g c =
    let at = (goal.at.returns-clause-search g c).In_ok-ask_claimed in
    let s = c.requires.search in
    record {
      first = s.first;
      begins = s.begins;
      warm = s.warm;
      cold = shaped (whole_claimed (whole g at));
      shift = omega (arith, c.fill.ensures.len, c.args.self.now.shift.ok.0, c.fill.new.self.ok.0);
    }

pub returns-clause-cold : goal.returns-clause-cold
returns-clause-cold g c = whole g (goal.at.returns-clause-cold g c).In_ok-ask_claimed
