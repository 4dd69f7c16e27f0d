use Rattle.std.proofs.Common.{ℕ, length, subst}
use Rattle.sfm_reach.proofs.Options.{match_some}
use Rattle.sfm_exchange.specs.Levels.{IsFirst}
use Rattle.sfm_exchange.proofs.ClaimedGraphs.{spot_rows}
use Rattle.sfm_stage.proofs.Aiming.{first_is_top, top_in}
use Rattle.sfm_stage.proofs.Moving.{kept_shut}
use Rattle.sfm_stage.proofs.stage.seek.Given as given
use Rattle.sfm_stage.proofs.stage.seek.Goals as goal
use Rattle.sfm_stage.proofs.stage.seek.Goals.{After-first_of-first}

-- the place that is begun at is the first of a walk
is_first : (g : given.Over) (c : After-first_of-first g)
    → IsFirst (length c.args._low.now) c.args.graph.now.unions.items c.args.kept.now.low.items
    c.find_levels.new.levels.items c.first_of-first.result
is_first g c =
    let unions = c.args.graph.now.unions.items in
    let z = c.args.kept.now.low.items in
    let F : ℕ → Type 0 = λ k. IsFirst k unions z c.find_levels.new.levels.items c.in-Some.near in
    let near = subst F c.requires.kept.lower.places
    (rw (c.deref-2.ensures.value, c.deref-3.ensures.value) at
    (match_some c.in_ok-near.field-0 c.in-Some.near _ _ c.in_ok-near.ensures c.in-Some.is)) in
    c.first_of-first.ensures (length c.args._low.now) unions near

pub lead-requires-clause-spots : goal.lead-requires-clause-spots
lead-requires-clause-spots g c =
    let first = is_first g (goal.at.lead-requires-clause-spots g c).After-first_of-first in (
      length c.args._low.now,
      rw c.deref-6.ensures.value (first_is_top first),
      c.requires.graph.are_spots,
    )

pub lead-requires-clause-rows : goal.lead-requires-clause-rows
lead-requires-clause-rows g c = spot_rows c.requires.graph

pub shut-requires-clause-first : goal.shut-requires-clause-first
shut-requires-clause-first g c =
    let first = is_first g (goal.at.shut-requires-clause-first g c).After-first_of-first in
    rw c.requires.kept.lower.places (top_in (first_is_top first))

pub shut-requires-clause-under : goal.shut-requires-clause-under
shut-requires-clause-under g c =
    (is_first g (goal.at.shut-requires-clause-under g c).After-first_of-first).under

pub returns-then-not-led-clause-kept : goal.returns-then-not-led-clause-kept
returns-then-not-led-clause-kept g c =
    let first = is_first g (goal.at.returns-then-not-led-clause-kept g c).After-first_of-first in
    let k = c.requires.kept in
    kept_shut c.args.kept.now c.shut.new.kept c.first_of-first.result k
    (rw k.lower.places (top_in (first_is_top first))) first.under c.shut.ensures.low
    c.shut.ensures.signs c.shut.ensures.high c.shut.ensures.above

pub returns-else-not-led-clause-seen : goal.returns-else-not-led-clause-seen
returns-else-not-led-clause-seen g c = λ _. record {
  first = is_first g (goal.at.returns-else-not-led-clause-seen g c).After-first_of-first;
  aims = rw c.deref-5.ensures.value at c.in_ok-write_aims.ensures;
  led = rw (c.deref-6.ensures.value, c.deref-7.ensures.value) at
      (c.in_ok-led.ensures c.if-not-led.false);
}
