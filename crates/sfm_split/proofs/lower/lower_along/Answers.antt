use Rattle.std.proofs.Common.{◌<◌, ℕ, length, get_or, ℤ, pos, arith, rules, FitsSigned}
use Rattle.std.proofs.lemmas.Int.{ints, by_lt_z, to_z-of_z}
use mir.Syntax.{w128}
use Rattle.sfm_cells.specs.Cells.{label_at}
use Rattle.sfm_cells.proofs.Grouping.{pass_begun, pass_here, pass_more, pass_done}
use Rattle.sfm_split.specs.Sides.{of_side}
use Rattle.sfm_split.proofs.Lowering.{IsSpent, lowered_nowhere, lowered_on, still_charged, still_spent, side_cells, side_places, side_small, side_mended}
use Rattle.sfm_split.proofs.lower.lower_along.Goals.{At-loop-e}
use Rattle.sfm_split.proofs.lower.lower_along.Goals as goal

-- the total is one of the side, which has as many as at first
in_range : (c : At-loop-e) → c.args.k < length
    (of_side c.args.side c.loop-e.left.lacks.items c.loop-e.left.rooms.items)
in_range c =
    let first = c.args.left.now in
    let left = c.loop-e.left in
    let place = c.requires.place in
    let same = side_places c.args.cells.now.whos.items c.args.cells.now.slots.items c.args.y.now
    first.lacks.items first.rooms.items c.requires.charged c.loop-e.y left.lacks.items
    left.rooms.items c.loop-e.invariant.lowered c.args.side in
    omega (arith, place, same)

pub loop-e-init : goal.loop-e-init
loop-e-init c =
    let cells = c.args.cells.now in
    let y = c.args.y.now in
    let left = c.args.left.now in
    let side = c.args.side in
    record {
      lowered = lowered_nowhere cells.whos.items cells.slots.items y left.lacks.items
          left.rooms.items;
      charged = c.requires.charged;
      passed = pass_begun c.list-e-items.result.now
          (IsSpent (of_side side left.lacks.items left.rooms.items) c.args.k y);
      listed = c.requires.listed;
    }

pub excess-over-requires : goal.excess-over-requires
excess-over-requires c =
    let left = c.loop-e.left in
    let place = in_range (goal.at.excess-over-requires c).At-loop-e in
    record {
      place = place;
      small = side_small c.args.cells.now.whos.items
          c.args.cells.now.slots.items c.loop-e.y left.lacks.items left.rooms.items
          c.loop-e.invariant.charged c.args.side c.args.k;
    }

pub lower_on-requires-clause-cell : goal.lower_on-requires-clause-cell
lower_on-requires-clause-cell c =
    let cells = c.args.cells.now in
    let left = c.args.left.now in
    let same = side_cells cells.whos.items cells.slots.items c.args.y.now left.lacks.items
    left.rooms.items c.requires.charged c.args.side in
    let (lt, mine) = pass_here c.groups.ensures c.list-e-items.ensures c.loop-e-test.true in
    omega (arith, lt, same)

pub loop-e-preserved : goal.loop-e-preserved
loop-e-preserved c =
    let whos = c.args.cells.now.whos.items in
    let slots = c.args.cells.now.slots.items in
    let side = c.args.side in
    let k = c.args.k in
    let first = c.args.left.now in
    let inv = c.loop-e.invariant in
    let (lt, mine) = pass_here c.groups.ensures c.list-e-items.ensures c.loop-e-test.true in
    let e = label_at c.list-e-items.result.now c.loop-e.e-index in
    let y = c.loop-e.y in
    let left = c.loop-e.left in
    let new = c.lower_on.new in
    let after = new.left in
    let told = c.in_ok-lower_on.ensures in
    let over : ℤ = c.excess-over.result in
    let fo : FitsSigned w128 over = search rules in
    let given = rw (to_z-of_z w128 over fo) at told.given in
    let is = c.excess-over.ensures in
    let Spent : ℕ → Type 0 = IsSpent (of_side side after.lacks.items after.rooms.items) k new.y in
    record {
      lowered = lowered_on whos slots c.args.y.now first.lacks.items first.rooms.items y
          left.lacks.items left.rooms.items new.y after.lacks.items after.rooms.items inv.lowered
          told.lowered;
      charged = still_charged whos slots y left.lacks.items left.rooms.items inv.charged new.y
          after.lacks.items after.rooms.items told.lowered;
      passed = pass_more Spent inv.passed
          (λ f h. still_spent whos slots y left.lacks.items left.rooms.items new.y after.lacks.items
          after.rooms.items told.lowered side k f h)
          (λ less. by_lt_z (pos 0) (get_or new.y e (pos 0))
          (λ some. let t = rw mine at
          (given (omega (arith, ints, some)) side) in absurd (omega (arith, ints, t, is, less)))
          (λ none. none));
      listed = told.listed;
    }

pub returns-clause-mended : goal.returns-clause-mended
returns-clause-mended c =
    let left = c.loop-e.left in
    let inv = c.loop-e.invariant in
    side_mended c.args.cells.now.whos.items c.args.cells.now.slots.items c.loop-e.y left.lacks.items
    left.rooms.items inv.charged c.args.side c.args.k
    (in_range (goal.at.returns-clause-mended c).At-loop-e)
    (pass_done c.groups.ensures c.list-e-items.ensures c.loop-e-test.false inv.passed)
