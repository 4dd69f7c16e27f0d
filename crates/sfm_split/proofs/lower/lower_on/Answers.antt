use Rattle.std.proofs.Common.{◌≡◌, ℕ, List, get_or, ℤ, pos, ◌-ℤ◌, ◌≤ℤ◌, arith, rules, FitsSigned}
use Rattle.std.proofs.lemmas.Int.{ints, clamps, to_z-of_z}
use Rattle.std.proofs.lemmas.List.{get_or_read}
use mir.Syntax.{w128}
use Rattle.sfm_cells.specs.Cells.{label_at}
use Rattle.sfm_split.specs.declared.lower.Side.TheVariants.{Demands, Slots}
use Rattle.sfm_split.proofs.Lowering.{lowered_cell, side_give, given_back}
use Rattle.sfm_split.proofs.lower.lower_on.Goals.{After-min-a}
use Rattle.sfm_split.proofs.lower.lower_on.Goals as goal

-- the demand and the slot of the cell, and what is taken from it: no less than nothing, no more
-- than it has, and all that is too much where something stays
record IsTaken (whos slots : List ℕ) (e i s : ℕ) (has over a : ℤ) : Type 0 where
  who : i ≡ label_at whos e
  slot : s ≡ label_at slots e
  low : pos 0 ≤ℤ a
  most : a ≤ℤ has
  all : pos 1 ≤ℤ (has -ℤ a) → a ≡ over

taken : (c : After-min-a) → IsTaken c.args.cells.now.whos.items c.args.cells.now.slots.items
    c.args.e c.index-i.result.now c.index-s.result.now (get_or c.args.y.now c.args.e (pos 0))
    c.args.over c.min-a.result
taken c =
    let w = c.requires.charged in
    let e = c.args.e in
    let lt = c.requires.cell in
    let same = w.cells.same in
    let has : ℤ = get_or c.args.y.now e (pos 0) in
    let over : ℤ = c.args.over in
    let fo : FitsSigned w128 over = c.ranges.over in
    let fy : FitsSigned w128 has = search rules in
    let value = c.min-a.ensures.value in
    let positive = c.requires.low in
    let some = w.charge.amounts e in
    record {
      who = get_or_read c.args.cells.now.whos.items e c.index-i.result.now lt c.index-i.ensures 0;
      slot = get_or_read c.args.cells.now.slots.items e c.index-s.result.now
          (omega (arith, lt, same)) c.index-s.ensures 0;
      low = omega (arith, ints, clamps, value, positive, some);
      most = omega (arith, ints, clamps, value);
      all = λ one. omega (arith, ints, clamps, value, one);
    }

pub take-requires-clause-low : goal.take-requires-clause-low
take-requires-clause-low c =
    let h = taken (goal.at.take-requires-clause-low c).After-min-a in
    let a : ℤ = c.min-a.result in
    let fa : FitsSigned w128 a = search rules in
    rw (to_z-of_z w128 a fa) h.low

pub take-requires-clause-enough : goal.take-requires-clause-enough
take-requires-clause-enough c =
    let h = taken (goal.at.take-requires-clause-enough c).After-min-a in
    let a : ℤ = c.min-a.result in
    let fa : FitsSigned w128 a = search rules in
    rw (to_z-of_z w128 a fa) h.most

pub put-requires-clause-can : goal.put-requires-clause-can
put-requires-clause-can c =
    let h = taken (goal.at.put-requires-clause-can c).After-min-a in
    let left = c.args.left.now in
    let a : ℤ = c.min-a.result in
    let fa : FitsSigned w128 a = search rules in
    rw (h.who, to_z-of_z w128 a fa)
    (side_give c.args.cells.now.whos.items c.args.cells.now.slots.items c.args.y.now
    left.lacks.items left.rooms.items c.requires.charged c.args.e a c.requires.cell h.low h.most
    Demands)

pub put-requires-2-clause-can : goal.put-requires-2-clause-can
put-requires-2-clause-can c =
    let h = taken (goal.at.put-requires-2-clause-can c).After-min-a in
    let left = c.args.left.now in
    let a : ℤ = c.min-a.result in
    let fa : FitsSigned w128 a = search rules in
    rw (c.in_ok-put.ensures.rooms, h.slot, to_z-of_z w128 a fa)
    (side_give c.args.cells.now.whos.items c.args.cells.now.slots.items c.args.y.now
    left.lacks.items left.rooms.items c.requires.charged c.args.e a c.requires.cell h.low h.most
    Slots)

pub returns-clause-lowered : goal.returns-clause-lowered
returns-clause-lowered c =
    let h = taken (goal.at.returns-clause-lowered c).After-min-a in
    let left = c.args.left.now in
    let a : ℤ = c.min-a.result in
    let fa : FitsSigned w128 a = search rules in
    let za = to_z-of_z w128 a fa in
    let ty = rw za at c.take.ensures in
    let tl = rw (h.who, za) at c.in_ok-put.ensures.lacks in
    let tr = rw (c.in_ok-put.ensures.rooms, h.slot, za) at c.in_ok-put-2.ensures.rooms in
    rw (ty, c.in_ok-put-2.ensures.lacks, tl, tr)
    (lowered_cell c.args.cells.now.whos.items c.args.cells.now.slots.items c.args.y.now
    left.lacks.items left.rooms.items c.args.e a c.requires.cell h.low h.most)

pub returns-clause-given : goal.returns-clause-given
returns-clause-given c =
    let h = taken (goal.at.returns-clause-given c).After-min-a in
    let left = c.args.left.now in
    let a : ℤ = c.min-a.result in
    let fa : FitsSigned w128 a = search rules in
    let za = to_z-of_z w128 a fa in
    let ty = rw za at c.take.ensures in
    let tl = rw (h.who, za) at c.in_ok-put.ensures.lacks in
    let tr = rw (c.in_ok-put.ensures.rooms, h.slot, za) at c.in_ok-put-2.ensures.rooms in
    rw (ty, c.in_ok-put-2.ensures.lacks, tl, tr)
    (given_back c.args.cells.now.whos.items c.args.cells.now.slots.items c.args.y.now
    left.lacks.items left.rooms.items c.requires.charged c.args.e a c.args.over c.requires.cell
    h.all)
