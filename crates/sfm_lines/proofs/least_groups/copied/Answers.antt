-- Each group is put behind the others as it is.
use Rattle.std.proofs.Common.{◌≡◌, to_z, of_z, sym, ◌∙◌, arith}
use Rattle.std.specs.Int.{w128}
use Rattle.std.proofs.lemmas.Int.{ints}
use Rattle.std.proofs.lemmas.List.{take_more}
use Rattle.std.proofs.lemmas.List.Elements.{All-get_or}
use Rattle.sfm_laminar.specs.Groups.{IsGroup}
use Rattle.sfm_lines.proofs.least_groups.copied.Goals as goal
use Rattle.sfm_lines.proofs.least_groups.copied.Goals.{After-cap}

here : (c : After-cap) → IsGroup c.group-item.result
here c = rw c.group-item.is (All-get_or IsGroup c.args.kept.now c.loop-group.group-index _
    c.loop-group-test.true c.requires)

fits : (c : After-cap) → to_z w128 (of_z w128 c.cap.result) ≡ c.group-item.result.cap
fits c = let g = here c in omega (arith, ints, g.given.low, g.given.high, c.cap.ensures)

pub push-requires-clause-low : goal.push-requires-clause-low
push-requires-clause-low c = let at = goal.at.push-requires-clause-low c in rw (fits at.After-cap)
    (here at.After-cap).low

pub push-requires-clause-given : goal.push-requires-clause-given
push-requires-clause-given c =
    let at = goal.at.push-requires-clause-given c in rw (fits at.After-cap)
    (here at.After-cap).given

pub push-requires-clause-ascending : goal.push-requires-clause-ascending
push-requires-clause-ascending c =
    let at = goal.at.push-requires-clause-ascending
    c in rw (c.in_ok-members.ensures.items, c.members.ensures) (here at.After-cap).ascending

pub loop-group-preserved : goal.loop-group-preserved
loop-group-preserved c =
    let at = goal.at.loop-group-preserved c in
    c.in_ok-push.ensures ∙ rw (
      c.loop-group.invariant,
      fits at.After-cap,
      c.in_ok-members.ensures.items,
      c.members.ensures,
      c.group-item.is,
    )
    (sym (take_more c.args.kept.now c.loop-group.group-index _ c.loop-group-test.true))
