use Rattle.std.proofs.Common.{◌≤◌, length, arith, ◌∙◌}
use Rattle.sfm_assign.proofs.Spreads.{spread_begun, spread_done, spread_few}
use Rattle.sfm_assign.proofs.spread.find_answer.Goals as goal

pub loop-at-init : goal.loop-at-init
loop-at-init c =
    let told = c.in_ok-begin.ensures in
    record {
      from = told.from;
      spread = rw (told.found, told.marks, told.queue, told.next)
          (spread_begun (length c.args.answers.now) c.args.shares.now.cells.whos.items
          c.args.shares.now.cells.slots.items c.args.shares.now.y.items c.args.rooms.now c.args.u
          c.requires.place);
    }

pub loop-at-smaller : goal.loop-at-smaller
loop-at-smaller c =
    let at = c.loop-at.at in
    let few = spread_few (length c.args.answers.now) c.args.shares.now.cells.whos.items
    c.args.shares.now.cells.slots.items c.args.shares.now.y.items c.args.rooms.now c.args.u
    at.found at.marks at.queue.items at.next c.loop-at.invariant.spread in
    let (more, spread) = rw c.in_default.is at c.in_ok-answer.ensures.end in
    let ok = at.queue.ok.0 in
    omega (arith, few, more, ok)

pub loop-at-preserved : goal.loop-at-preserved
loop-at-preserved c =
    let told = c.in_ok-answer.ensures in
    let from = told.from ∙ c.loop-at.invariant.from in
    let (more, spread) = rw c.in_default.is at told.end in
    record { from = from; spread = rw from at spread }

pub returns-in-Some : goal.returns-in-Some
returns-in-Some c = rw (c.in-Some.is, c.loop-at.invariant.from) at c.in_ok-answer.ensures.end

pub returns : goal.returns
returns c =
    let at = c.loop-at.at in
    let ok = at.queue.ok.0 in
    let past : length at.queue.items ≤ at.next = omega arith in
    rw c.in_ok-found.ensures (spread_done (length c.args.answers.now)
    c.args.shares.now.cells.whos.items c.args.shares.now.cells.slots.items
    c.args.shares.now.y.items c.args.rooms.now c.args.u at.found at.marks at.queue.items at.next
    c.loop-at.invariant.spread past)
