use Rattle.std.proofs.Common.{◌≡◌, length, drop, ℤ, pos, ◌-ℤ◌, sym, ap, ◌∙◌, arith, rules, FitsSigned}
use Rattle.std.proofs.lemmas.Int.{ints, to_z-of_z}
use Rattle.std.proofs.lemmas.List.{get_or_read}
use mir.Syntax.{w128}
use Rattle.sfm_cells.specs.Splits.{Demands, amount_at}
use Rattle.sfm_cells.proofs.Written.{written}
use Rattle.sfm_split.specs.Grown.{MayGrow}
use Rattle.sfm_split.proofs.Growing.{IsRaisedMost, may_within, may_listed, may_grow}
use Rattle.sfm_split.proofs.grown.raise_most.Goals.{In_ok-search, After-index}
use Rattle.sfm_split.proofs.grown.raise_most.Goals as goal

-- u is raised as far as it goes
raised : (c : In_ok-search) (d : Demands)
    → MayGrow d c.args.cells.now.whos.items c.args.cells.now.slots.items c.args.work.now.y.items
    c.args.work.now.left.lacks.items c.args.work.now.left.rooms.items c.args.u c.args.limit
    → IsRaisedMost d c.args.cells.now.whos.items c.args.cells.now.slots.items c.args.u c.args.limit
    c.fill_from.new.y c.fill_from.new.left.lacks.items c.fill_from.new.left.rooms.items
raised c d h =
    let cells = c.args.cells.now in
    let work = c.args.work.now in
    let limit : ℤ = c.args.limit in
    let fq : FitsSigned w128 limit = c.ranges.limit in
    let told = simp to_z-of_z at (rw c.deref_mut.ensures.value at c.in_ok-search.ensures) in
    let after = c.fill_from.new.left in
    may_grow d cells.whos.items cells.slots.items work.y.items work.left.lacks.items
    work.left.rooms.items c.args.u limit h c.fill_from.new.y after.lacks.items after.rooms.items
    c.in_ok-search.search.nodes.items told.raised told.stuck

-- what u still lacks is read, and is no more than the limit
left_of : (c : After-index) (d : Demands)
    → MayGrow d c.args.cells.now.whos.items c.args.cells.now.slots.items c.args.work.now.y.items
    c.args.work.now.left.lacks.items c.args.work.now.left.rooms.items c.args.u c.args.limit
    → IsRaisedMost d c.args.cells.now.whos.items c.args.cells.now.slots.items c.args.u c.args.limit
    c.fill_from.new.y c.fill_from.new.left.lacks.items c.fill_from.new.left.rooms.items
    → (c.index.result.now ≡ amount_at c.fill_from.new.left.lacks.items c.args.u)
    × FitsSigned w128 (c.args.limit -ℤ c.index.result.now)
left_of c d h told =
    let limit : ℤ = c.args.limit in
    let fq : FitsSigned w128 limit = c.ranges.limit in
    let places = told.places in
    let low_left = told.low in
    let high_left = told.high in
    let lt = h.place in
    let low = h.low in
    let m = get_or_read c.fill_from.new.left.lacks.items c.args.u c.index.result.now
    (omega (arith, lt, places)) c.index.ensures (pos 0) in
    (m, omega (arith, ints, m, low_left, high_left, low, fq))

pub index_mut-requires : goal.index_mut-requires
index_mut-requires c =
    let (d, h) = c.requires in
    let lt = h.place in
    let long = h.lacks_are.places in
    let ok = c.args.work.now.left.lacks.ok.0 in
    omega (arith, lt, long, ok)

pub fill_from-requires : goal.fill_from-requires
fill_from-requires c =
    let (d, h) = c.requires in
    let cells = c.args.cells.now in
    let work = c.args.work.now in
    let limit : ℤ = c.args.limit in
    let fq : FitsSigned w128 limit = c.ranges.limit in
    record {
      within = simp to_z-of_z
          (rw c.deref_mut.ensures.value
          (may_within d cells.whos.items cells.slots.items work.y.items work.left.lacks.items
          work.left.rooms.items c.args.u limit h));
      listed = simp to_z-of_z (rw (c.in_ok-push.ensures.items, c.clear.ensures.items)
          (may_listed d cells.whos.items cells.slots.items work.y.items work.left.lacks.items
          work.left.rooms.items c.args.u limit h));
    }

pub index-requires : goal.index-requires
index-requires c =
    let (d, h) = c.requires in
    let places = (raised (goal.at.index-requires c).In_ok-search d h).places in
    let lt = h.place in
    let ok = c.fill_from.new.left.lacks.ok.0 in
    omega (arith, lt, places, ok)

pub overflow_sub-more : goal.overflow_sub-more
overflow_sub-more c =
    let (d, h) = c.requires in
    let fq : FitsSigned w128 c.args.limit = c.ranges.limit in
    let fl : FitsSigned w128 c.index.result.now = search rules in
    let told = raised (goal.at.overflow_sub-more c).In_ok-search d h in
    simp to_z-of_z (left_of (goal.at.overflow_sub-more c).After-index d h told).1

pub returns : goal.returns
returns c d h =
    let work = c.args.work.now in
    let fq : FitsSigned w128 c.args.limit = c.ranges.limit in
    let fl : FitsSigned w128 c.index.result.now = search rules in
    let told = raised (goal.at.returns c).In_ok-search d h in
    let (m, fd) = left_of (goal.at.returns c).After-index d h told in
    let q = written c.fill_from.new.y (drop (length c.fill_from.new.y) work.y.items) work.y.len
    (c.fill_from.auto.y ∙ (ap length c.deref_mut.ensures.value ∙ sym work.y.ok.0)) in
    simp to_z-of_z (rw (q, m) told.grown)
