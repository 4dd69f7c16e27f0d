use Rattle.std.proofs.Common.{◌≡◌, length, ℤ, pos, ◌≤ℤ◌, drop, arith, rules, FitsSigned, refl, ap, sym, ◌∙◌}
use Rattle.std.proofs.lemmas.Int.{ints, to_z-of_z}
use Rattle.std.proofs.lemmas.List.{get_or_read}
use mir.Syntax.{w128}
use Rattle.sfm_cells.specs.Splits.{amount_at}
use Rattle.sfm_cells.specs.Cells.{label_at}
use Rattle.sfm_cells.proofs.Written.{written}
use Rattle.sfm_split.proofs.Within.{within_cells, within_load, within_small, moved}
use Rattle.sfm_split.proofs.fill.raise.Goals.{After-index-s, After-index}
use Rattle.sfm_split.proofs.fill.raise.Goals as goal

-- the slot of the cell
slot : (c : After-index-s) → c.index-s.result.now ≡ label_at c.args.cells.now.slots.items c.args.e
slot c =
    let left = c.args.left.now in
    let slots = c.args.cells.now.slots.items in
    let same = (within_cells c.args.cells.now.whos.items slots c.args.y.now left.lacks.items
    left.rooms.items c.requires.within).same in
    let lt = c.requires.cell in
    get_or_read slots c.args.e c.index-s.result.now (omega (arith, same, lt)) c.index-s.ensures 0

-- what it has left
room : (c : After-index) → c.index-s.result.now ≡ label_at c.args.cells.now.slots.items c.args.e
    → c.index.result.now ≡ amount_at c.args.left.now.rooms.items
    (label_at c.args.cells.now.slots.items c.args.e)
room c is =
    let left = c.args.left.now in
    let slots = c.args.cells.now.slots.items in
    let s = c.index-s.result.now in
    let exist = (within_cells c.args.cells.now.whos.items slots c.args.y.now left.lacks.items
    left.rooms.items c.requires.within).exist c.args.e c.requires.cell in
    get_or_read left.rooms.items s c.index.result.now (omega (arith, is, exist)) c.index.ensures
    (pos 0) ∙ ap (λ k. amount_at left.rooms.items k) is

pub flow_along-a-requires-clause-tree : goal.flow_along-a-requires-clause-tree
flow_along-a-requires-clause-tree c = rw c.deref-2.ensures.value c.requires.tree

pub returns-then-a-le0-clause-more : goal.returns-then-a-le0-clause-more
returns-then-a-le0-clause-more c =
    let path = goal.at.returns-then-a-le0-clause-more c in
    let held = room path.After-index (slot path.After-index-s) in
    let fr : FitsSigned w128 c.index.result.now = search rules in
    let fa : FitsSigned w128 c.flow_along-a.result = search rules in
    let some = rw (c.deref-2.ensures.value, c.deref-3.ensures.value) at
    c.flow_along-a.ensures.some in
    let none = c.if-a-le0.true in
    λ open_.
    let has = open_.end.room in
    let one = some open_.tree open_.roots (omega (arith, ints, has, held)) in
    absurd (omega (arith, ints, one, none))

pub augment-requires-clause-tree : goal.augment-requires-clause-tree
augment-requires-clause-tree c = rw c.deref-4.ensures.value c.requires.tree

pub augment-requires-clause-amounts : goal.augment-requires-clause-amounts
augment-requires-clause-amounts c = c.requires.within.part.amounts

pub augment-requires-clause-some : goal.augment-requires-clause-some
augment-requires-clause-some c =
    let a : ℤ = c.flow_along-a.result in
    let fa : FitsSigned w128 a = search rules in
    let on = c.if-a-le0.false in
    rw (to_z-of_z w128 a fa) (omega (arith, ints, on))

pub augment-requires-clause-small : goal.augment-requires-clause-small
augment-requires-clause-small c =
    let left = c.args.left.now in
    within_load c.args.cells.now.whos.items c.args.cells.now.slots.items c.args.y.now
    left.lacks.items left.rooms.items c.requires.within

pub augment-requires-clause-room : goal.augment-requires-clause-room
augment-requires-clause-room c =
    let path = goal.at.augment-requires-clause-room c in
    let left = c.args.left.now in
    let whos = c.args.cells.now.whos.items in
    let slots = c.args.cells.now.slots.items in
    let held = room path.After-index (slot path.After-index-s) in
    let a : ℤ = c.flow_along-a.result in
    let fr : FitsSigned w128 c.index.result.now = search rules in
    let fa : FitsSigned w128 a = search rules in
    let most = c.flow_along-a.ensures.most in
    let exist = (within_cells whos slots c.args.y.now left.lacks.items left.rooms.items
    c.requires.within).exist c.args.e c.requires.cell in
    let high = within_small whos slots c.args.y.now left.lacks.items left.rooms.items
    c.requires.within (label_at slots c.args.e) exist in
    rw (to_z-of_z w128 a fa) (omega (arith, ints, most, held, high))

pub take-requires-clause-low : goal.take-requires-clause-low
take-requires-clause-low c =
    let a : ℤ = c.flow_along-a.result in
    let fa : FitsSigned w128 a = search rules in
    let on = c.if-a-le0.false in
    rw (to_z-of_z w128 a fa) (omega (arith, ints, on))

pub take-requires-clause-place : goal.take-requires-clause-place
take-requires-clause-place c =
    let left = c.args.left.now in
    let is = slot (goal.at.take-requires-clause-place c).After-index-s in
    let exist = (within_cells c.args.cells.now.whos.items c.args.cells.now.slots.items c.args.y.now
    left.lacks.items left.rooms.items c.requires.within).exist c.args.e c.requires.cell in
    rw (c.deref_mut-2.ensures.value, is) exist

pub take-requires-clause-enough : goal.take-requires-clause-enough
take-requires-clause-enough c =
    let path = goal.at.take-requires-clause-enough c in
    let is = slot path.After-index-s in
    let held = room path.After-index is in
    let q = ap (λ k. amount_at c.args.left.now.rooms.items k) is in
    let fr : FitsSigned w128 c.index.result.now = search rules in
    let fa : FitsSigned w128 c.flow_along-a.result = search rules in
    let most = c.flow_along-a.ensures.most in
    rw c.deref_mut-2.ensures.value (omega (arith, ints, most, held, q))

pub returns : goal.returns
returns c =
    let path = goal.at.returns c in
    let left = c.args.left.now in
    let lacks = left.lacks.items in
    let rooms = left.rooms.items in
    let is = slot path.After-index-s in
    let held = room path.After-index is in
    let a : ℤ = c.flow_along-a.result in
    let fr : FitsSigned w128 c.index.result.now = search rules in
    let fa : FitsSigned w128 a = search rules in
    let most = c.flow_along-a.ensures.most in
    let on = c.if-a-le0.false in
    let some : pos 1 ≤ℤ a = omega (arith, ints, on) in
    let fits : a ≤ℤ amount_at rooms
    (label_at c.args.cells.now.slots.items c.args.e) = omega (arith, ints, most, held) in
    let za = to_z-of_z w128 a fa in
    let (r, tl) = rw (c.deref-4.ensures.value, c.deref_mut.ensures.value, za) at
    c.augment.ensures in
    let tr = rw (c.deref_mut-2.ensures.value, is, za) at c.take.ensures in
    let ql = written c.augment.new.lacks (drop (length c.augment.new.lacks) lacks) left.lacks.len
    (c.augment.auto.lacks ∙ (ap length c.deref_mut.ensures.value ∙ sym left.lacks.ok.0)) in
    let qr = written c.take.new.from (drop (length c.take.new.from) rooms) left.rooms.len
    (c.take.auto.from ∙ (ap length c.deref_mut-2.ensures.value ∙ sym left.rooms.ok.0)) in
    let (raised, less) = moved c.args.cells.now.whos.items c.args.cells.now.slots.items c.args.y.now
    lacks rooms c.args.search.now.nodes.items c.args.e a c.augment.new.y c.augment.new.lacks
    c.take.new.from c.requires.places c.requires.cell some fits r tl tr in
    rw (ql, qr) (record { raised = raised; same = refl; more = λ open_. less })
