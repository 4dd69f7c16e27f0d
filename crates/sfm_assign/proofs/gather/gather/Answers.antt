use Rattle.std.proofs.Common.{◌≡◌, ◌<◌, pos, ◌≤ℤ◌, length, refl, ap, arith, ◌∙◌}
use Rattle.std.proofs.lemmas.Int.{ints}
use Rattle.std.proofs.lemmas.List.{get_or_read}
use Rattle.sfm_cells.specs.Splits.{amount_at}
use Rattle.sfm_cells.specs.Cells.{label_at}
use Rattle.sfm_cells.proofs.Grouping.{pass_begun, pass_here, pass_more, pass_done}
use Rattle.sfm_assign.specs.Spread.{AreTakenIn}
use Rattle.sfm_assign.proofs.Spreads.{room_here}
use Rattle.sfm_assign.proofs.Gathering.{IsDone, gathered_none, gathered_more, gathered_all, held_room, done_still}
use Rattle.sfm_assign.proofs.gather.gather.Goals.{After-index-s}
use Rattle.sfm_assign.proofs.gather.gather.Goals as goal

-- the cell is one of u, and its slot is one of those there are
slot : (c : After-index-s) → let e = label_at c.list-e-items.result.now
    c.loop-e.e-index in (e < length c.args.split.now.shares.now.cells.whos.items)
    × (label_at c.args.split.now.shares.now.cells.whos.items e ≡ c.args.u)
    × (c.index-s.result.now ≡ label_at c.args.split.now.shares.now.cells.slots.items e)
    × (c.index-s.result.now < length c.args.split.now.rooms.now)
slot c =
    let e = label_at c.list-e-items.result.now c.loop-e.e-index in
    let cells = c.args.split.now.shares.now.cells in
    let (lt, mine) = pass_here cells.whos_grouped (rw c.all-cells.ensures at c.list-e-items.ensures)
    c.loop-e-test.true in
    let told = c.loop-e.invariant.told.cells in
    let same = told.same in
    let exist = told.exist e lt in
    let is : c.index-s.result.now ≡ label_at cells.slots.items e = get_or_read cells.slots.items e
    c.index-s.result.now (omega (arith, lt, same)) (rw c.all-cells.ensures at c.index-s.ensures)
    0 in
    (lt, mine, is, omega (arith, is, exist))

pub loop-e-init : goal.loop-e-init
loop-e-init c =
    let s = c.args.split.now.shares.now in
    let n = length c.args.answers.now in
    let rooms = c.args.split.now.rooms.now in
    record {
      same = refl;
      told = c.requires.told;
      gathered = rw (c.clear.ensures, c.requires.places)
          (gathered_none n s.cells.whos.items s.cells.slots.items s.y.items rooms c.args.u);
      passed = pass_begun c.list-e-items.result.now _;
    }

pub index-s-requires : goal.index-s-requires
index-s-requires c =
    let (lt, mine) = pass_here c.args.split.now.shares.now.cells.whos_grouped
    (rw c.all-cells.ensures at c.list-e-items.ensures) c.loop-e-test.true in
    let same = c.loop-e.invariant.told.cells.same in
    rw c.all-cells.ensures (omega (arith, lt, same))

pub offset_bounds-split-s : goal.offset_bounds-split-s
offset_bounds-split-s c = let (lt, mine, is, below) = slot
    (goal.at.offset_bounds-split-s c).After-index-s in omega (arith, below)

pub loop-e-preserved : goal.loop-e-preserved
loop-e-preserved c =
    let s = c.args.split.now.shares.now in
    let whos = s.cells.whos.items in
    let slots = s.cells.slots.items in
    let y = s.y.items in
    let rooms = c.args.split.now.rooms.now in
    let n = length c.args.answers.now in
    let e = label_at c.list-e-items.result.now c.loop-e.e-index in
    let before = c.loop-e.to in
    let after = c.take_slot.new.to in
    let inv = c.loop-e.invariant in
    let (lt, mine, is, below) = slot (goal.at.loop-e-preserved c).After-index-s in
    let so = c.take_slot.ensures in
    let little : amount_at rooms c.index-s.result.now ≤ℤ pos
    0 = (let f = c.if-split-s-gt0.false in omega (arith, ints, f)) in
    let taken : AreTakenIn n whos slots y rooms (label_at slots e) before
    after = rw (← is, ← inv.same) (rw c.if-branch.false at c.in_ok-take_slot.ensures.taken) in
    record {
      same = so.same ∙ inv.same;
      told = so.told;
      gathered = rw (← mine) (gathered_more n whos slots y rooms e before after lt
          (rw mine inv.gathered) taken);
      passed = pass_more (IsDone n whos slots y rooms after) inv.passed
          (λ f done. done_still n whos slots y rooms before after f taken.kept done)
          (record { full = rw (← is) little; holders = taken.holders });
    }

pub returns-then-split-s-gt0-clause-led : goal.returns-then-split-s-gt0-clause-led
returns-then-split-s-gt0-clause-led c =
    let s = c.args.split.now.shares.now in
    let rooms = c.args.split.now.rooms.now in
    let e = label_at c.list-e-items.result.now c.loop-e.e-index in
    let (lt, mine, is, below) = slot
    (goal.at.returns-then-split-s-gt0-clause-led c).After-index-s in
    let q = ap (λ j. amount_at rooms j) is in
    let more = c.if-split-s-gt0.true in
    let room : pos 1 ≤ℤ amount_at rooms
    (label_at s.cells.slots.items e) = omega (arith, ints, q, more) in
    rw (← mine) (room_here s.cells.whos.items s.cells.slots.items s.y.items rooms e lt room)

pub returns-then-branch-clause-led : goal.returns-then-branch-clause-led
returns-then-branch-clause-led c =
    let s = c.args.split.now.shares.now in
    let e = label_at c.list-e-items.result.now c.loop-e.e-index in
    let (lt, mine, is, below) = slot (goal.at.returns-then-branch-clause-led c).After-index-s in
    let held = rw is at (rw c.if-branch.true at c.in_ok-take_slot.ensures.taken) in
    rw (← mine) (held_room (length c.args.answers.now) s.cells.whos.items s.cells.slots.items
    s.y.items c.args.split.now.rooms.now e lt held)

pub returns-clause-led : goal.returns-clause-led
returns-clause-led c =
    let s = c.args.split.now.shares.now in
    let inv = c.loop-e.invariant in
    gathered_all (length c.args.answers.now) s.cells.whos.items s.cells.slots.items s.y.items
    c.args.split.now.rooms.now c.args.u c.loop-e.to c.requires.place inv.gathered
    (pass_done s.cells.whos_grouped (rw c.all-cells.ensures at c.list-e-items.ensures)
    c.loop-e-test.false inv.passed)
