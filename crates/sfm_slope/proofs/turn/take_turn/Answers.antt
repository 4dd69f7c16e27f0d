use Rattle.std.proofs.Common.{◌≡◌, sym, ◌∙◌}
use Rattle.sfm_spec.specs.Sets.{size}
use Rattle.sfm_exchange.proofs.ClaimedGraphs.{are_terms}
use Rattle.sfm_slope.proofs.Turns.{turn_between, turn_next, turn_ratio, turn_weights}
use Rattle.sfm_slope.proofs.turn.take_turn.Goals as goal

pub slope_between-slope-requires : goal.slope_between-slope-requires
slope_between-slope-requires g c =
    let m = g.met.T.Term in
    let r = c.requires in
    let fit = are_terms r.search.first m.family m.submodular in
    let (low, larger, high) = turn_weights fit r.sizes r.low_worth r.high_worth r.begun r.gap in
    record {
      low = low;
      larger = larger;
      high = high;
      low_small = r.low_worth.small;
      high_small = r.high_worth.small;
    }

pub least_near-requires-clause-small : goal.least_near-requires-clause-small
least_near-requires-clause-small g c =
    let m = g.met.T.Term in
    let r = c.requires in
    let fit = are_terms r.search.first m.family m.submodular in
    let slope = c.slope_between-slope in
    (turn_ratio fit r.sizes r.low_worth r.high_worth r.begun r.gap slope.result slope.ensures).small

pub returns-then-least-low-clause-turn : goal.returns-then-least-low-clause-turn
returns-then-least-low-clause-turn g c =
    let m = g.met.T.Term in
    let r = c.requires in
    let fit = are_terms r.search.first m.family m.submodular in
    let slope = c.slope_between-slope in
    let same = sym c.in_ok-least.ensures.worth.size ∙ c.if-least-low.true in
    let least = c.in_ok-least.ensures.least in
    rw c.in_ok-copy.ensures
    (turn_next fit r.sizes r.low_worth r.high_worth r.begun r.gap slope.result slope.ensures least
    same)

pub returns-clause-turn : goal.returns-clause-turn
returns-clause-turn g c =
    let m = g.met.T.Term in
    let r = c.requires in
    let fit = are_terms r.search.first m.family m.submodular in
    let slope = c.slope_between-slope in
    let found = c.in_ok-least.ensures in
    let apart : size c.in_ok-least.least.set ≡ c.args.low.now.size
    → ⊥ = λ e. c.if-least-low.false (found.worth.size ∙ e) in
    let two = turn_between fit r.sizes r.low_worth r.high_worth r.begun r.gap slope.result
    slope.ensures found.least apart in
    (two.0, two.1, found.worth)
