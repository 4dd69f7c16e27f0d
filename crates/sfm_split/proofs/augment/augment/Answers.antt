use Rattle.std.proofs.Common.{◌≡◌, set, ◌^◌, length, pos, ℤ, Some, ◌+ℤ◌, ◌-ℤ◌, ◌≤ℤ◌, refl, arith, to_z, of_z, FitsSigned, ap, sym, ◌∙◌}
use Rattle.std.proofs.lemmas.Int.{ints, to_z-of_z}
use Rattle.std.proofs.lemmas.List.{get_or_read}
use mir.Syntax.{w128}
use Rattle.sfm_cells.specs.Splits.{amount_at}
use Rattle.sfm_cells.specs.Cells.{label_at}
use Rattle.sfm_cells.proofs.Amounts.{sum_at-holds}
use Rattle.sfm_split.specs.Search.{node_at}
use Rattle.sfm_split.proofs.Ways.{carries_end}
use Rattle.sfm_split.proofs.Fills.{below_nodes}
use Rattle.sfm_split.proofs.Augments.{IsMoving, Passes, moving_begun, moving_passes, moving_step, moving_lower, moving_done, level_of, level_some}
use Rattle.sfm_split.proofs.augment.augment.Goals.{In-Some}
use Rattle.sfm_split.proofs.augment.augment.Goals as goal

-- an amount as a call passes it
abbrev passed : ℤ → ℤ
passed a = to_z w128 (of_z w128 a)

abbrev minus : ℤ → ℤ
minus a = passed (pos 0 -ℤ passed a)

cancels : (a : ℤ) → FitsSigned w128 a → pos 0 ≤ℤ a → (minus a +ℤ passed a) ≡ pos 0
cancels a f some = let za : passed a ≡ a = to_z-of_z w128 a f in omega (arith, ints)

-- the demand gives the amount on along its link
linked : (c : In-Some) → c.loop-link.invariant.here.link ≡ Some c.in-Some.link
linked c = sym (c.link_of.ensures c.loop-link.invariant.here c.loop-link.invariant.is_here)
    ∙ c.in-Some.is

passes : (c : In-Some) → Passes c.args.cells.now.whos.items c.loop-link.y c.in-Some.link
    (passed c.args.a) (minus c.args.a) (pos (10 ^ 24))
passes c =
    let nodes = c.args.nodes.now in
    let (m, cells) = c.requires.cells in
    let f : FitsSigned w128 c.args.a = c.ranges.a in
    let za : passed c.args.a ≡ c.args.a = to_z-of_z w128 c.args.a f in
    let some = c.requires.some in
    let room = c.requires.room in
    moving_passes (length nodes) m c.args.cells.now.whos.items c.args.cells.now.slots.items nodes
    c.args.lacks.now c.args.last (passed c.args.a) c.args.y.now c.loop-link.y c.loop-link.who
    cells c.requires.same c.requires.tree c.loop-link.invariant (pos (10 ^ 24)) c.requires.small
    (omega (arith, ints, za, room)) (omega (arith, ints, za, some)) c.in-Some.link (linked c)
    (minus c.args.a) (cancels c.args.a c.ranges.a c.requires.some)

-- then the next demand on the way holds it
next : (c : In-Some) → IsMoving c.args.cells.now.whos.items c.args.cells.now.slots.items
    c.args.nodes.now c.args.lacks.now c.args.last (passed c.args.a) c.args.y.now
    (set (set c.loop-link.y c.in-Some.link.own
    (amount_at c.loop-link.y c.in-Some.link.own +ℤ minus c.args.a)) c.in-Some.link.other
    (amount_at (set c.loop-link.y c.in-Some.link.own
    (amount_at c.loop-link.y c.in-Some.link.own +ℤ minus c.args.a))
    c.in-Some.link.other +ℤ passed c.args.a))
    (label_at c.args.cells.now.whos.items c.in-Some.link.other)
next c =
    let nodes = c.args.nodes.now in
    let z = c.loop-link.y in
    let l = c.in-Some.link in
    let (m, cells) = c.requires.cells in
    let f : FitsSigned w128 c.args.a = c.ranges.a in
    let za : passed c.args.a ≡ c.args.a = to_z-of_z w128 c.args.a f in
    let some = c.requires.some in
    let none = cancels c.args.a c.ranges.a c.requires.some in
    let u : ℤ = amount_at z l.own +ℤ minus c.args.a in
    let w : ℤ = amount_at (set z l.own u) l.other +ℤ passed c.args.a in
    moving_step (length nodes) m c.args.cells.now.whos.items c.args.cells.now.slots.items nodes
    c.args.lacks.now c.args.last (passed c.args.a) c.args.y.now z c.loop-link.who cells
    c.requires.same c.requires.tree c.loop-link.invariant l (linked c) u w
    (omega (arith, ints, none)) refl (omega (arith, ints, za, some))

pub put-requires-clause-high : goal.put-requires-clause-high
put-requires-clause-high c =
    let slots = c.args.cells.now.slots.items in
    let y = c.args.y.now in
    let (m, cells) = c.requires.cells in
    let same = c.requires.same in
    let h = cells.same in
    let lt = c.requires.last in
    let b = sum_at-holds slots y c.args.last c.requires.amounts (same ∙ sym h)
    (omega (arith, h, lt)) in
    let f : FitsSigned w128 c.args.a = c.ranges.a in
    let r = c.requires.room in
    omega (arith, ints, b, r)

pub loop-link-init : goal.loop-link-init
loop-link-init c =
    let whos = c.args.cells.now.whos.items in
    let nodes = c.args.nodes.now in
    let y = c.args.y.now in
    let a = c.args.a in
    let (m, cells) = c.requires.cells in
    let za = to_z-of_z w128 a c.ranges.a in
    let v = get_or_read whos c.args.last c.index-who.result.now c.requires.last c.index-who.ensures
    0 in
    rw (c.put.ensures, za, v) (moving_begun (length nodes) m whos c.args.cells.now.slots.items nodes
    c.args.lacks.now c.args.last a (amount_at y c.args.last +ℤ a) y cells c.requires.same
    c.requires.amounts c.requires.last c.requires.some c.requires.way refl)

pub put-requires-in-Some : goal.put-requires-in-Some
put-requires-in-Some c = let p = passes
    (goal.at.put-requires-in-Some c).In-Some in let low = p.own_low in let high =
    p.own_high in record {
      place = p.own_z;
      low = omega (arith, ints, low);
      high = omega (arith, ints, high);
    }

pub put-requires-in-Some-2 : goal.put-requires-in-Some-2
put-requires-in-Some-2 c = let p = passes
    (goal.at.put-requires-in-Some-2 c).In-Some in let low = p.other_low in let high =
    p.other_high in rw c.put-in-Some.ensures
    (record { place = p.other_z; low = omega (arith, ints, low); high = omega (arith, ints, high) })

pub index-who-requires-in-Some : goal.index-who-requires-in-Some
index-who-requires-in-Some c =
    let h = (passes (goal.at.index-who-requires-in-Some c).In-Some).other_in in
    let ok = c.args.cells.now.whos.ok.0 in
    omega (arith, h, ok)

pub loop-link-smaller : goal.loop-link-smaller
loop-link-smaller c =
    let here = (goal.at.loop-link-smaller c).In-Some in
    let whos = c.args.cells.now.whos.items in
    let nodes = c.args.nodes.now in
    let inv = c.loop-link.invariant in
    let l = c.in-Some.link in
    let (m, cells) = c.requires.cells in
    let v = get_or_read whos l.other c.index-who-in-Some.result.now (passes here).other_in
    c.index-who-in-Some.ensures 0 in
    let then = next here in
    let lower = moving_lower (length nodes) m whos c.args.cells.now.slots.items nodes
    c.args.lacks.now c.args.last (passed c.args.a) c.args.y.now c.loop-link.y c.loop-link.who
    cells c.requires.same c.requires.tree inv l (linked here) then.here then.is_here in
    let b = level_some (node_at nodes c.loop-link.who) inv.here inv.is_here in
    let d = level_some (node_at nodes (label_at whos l.other)) then.here then.is_here in
    let e = ap (λ i. level_of (node_at nodes i)) v in
    omega (arith, lower, b, d, e)

pub loop-link-preserved : goal.loop-link-preserved
loop-link-preserved c =
    let here = (goal.at.loop-link-preserved c).In-Some in
    let v = get_or_read c.args.cells.now.whos.items c.in-Some.link.other
    c.index-who-in-Some.result.now (passes here).other_in c.index-who-in-Some.ensures 0 in
    rw (c.put-in-Some-2.ensures, c.put-in-Some.ensures, v) (next here)

pub take-requires-clause-place : goal.take-requires-clause-place
take-requires-clause-place c =
    let inv = c.loop-link.invariant in
    let below = below_nodes c.args.nodes.now c.loop-link.who inv.here inv.is_here in
    let places = c.requires.places in
    omega (arith, below, places)

pub take-requires-clause-enough : goal.take-requires-clause-enough
take-requires-clause-enough c =
    let nodes = c.args.nodes.now in
    let inv = c.loop-link.invariant in
    let none = sym (c.link_of.ensures inv.here inv.is_here) ∙ c.in_default.is in
    carries_end c.args.cells.now.whos.items nodes c.args.y.now c.args.lacks.now
    (to_z w128 (of_z w128 c.args.a)) c.loop-link.who inv.here inv.way inv.is_here none

pub returns : goal.returns
returns c =
    let whos = c.args.cells.now.whos.items in
    let slots = c.args.cells.now.slots.items in
    let nodes = c.args.nodes.now in
    let lacks = c.args.lacks.now in
    let inv = c.loop-link.invariant in
    let (m, cells) = c.requires.cells in
    let za = to_z-of_z w128 c.args.a c.ranges.a in
    let (r, root) = rw za at (moving_done (length nodes) m whos slots nodes lacks c.args.last
    (to_z w128 (of_z w128 c.args.a)) c.args.y.now c.loop-link.y c.loop-link.who cells
    c.requires.same c.requires.tree inv
    (sym (c.link_of.ensures inv.here inv.is_here) ∙ c.in_default.is)) in
    (r, rw (root, ← za) c.take.ensures)
