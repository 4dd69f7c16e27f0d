use Rattle.std.proofs.Common.{◌≡◌, ◌<◌, length, get_or, ℤ, pos, Some, ap, sym, ◌∙◌, arith, rules, FitsSigned}
use Rattle.std.proofs.lemmas.Int.{ints, clamps, to_z-of_z}
use Rattle.std.proofs.lemmas.List.{get_or_read}
use mir.Syntax.{w128}
use Rattle.sfm_cells.specs.Cells.{label_at}
use Rattle.sfm_split.specs.Search.{node_at, IsBranch}
use Rattle.sfm_split.proofs.Augments.{level_of, level_some}
use Rattle.sfm_split.proofs.Ways.{way_begun, way_more, way_done, way_some}
use Rattle.sfm_split.proofs.augment.flow_along.Goals.{In-Some}
use Rattle.sfm_split.proofs.augment.flow_along.Goals as goal

-- the demand has a link
linked : (c : In-Some) → c.loop-link.invariant.here.link ≡ Some c.in-Some.link
linked c = sym (c.link_of.ensures c.loop-link.invariant.here c.loop-link.invariant.is_here)
    ∙ c.in-Some.is

branch : (c : In-Some) → IsBranch c.args.cells.now.whos.items c.args.cells.now.slots.items
    c.args.nodes.now c.loop-link.who c.loop-link.invariant.here c.in-Some.link
branch c = let inv = c.loop-link.invariant in c.requires.tree c.loop-link.who inv.here
    c.in-Some.link inv.is_here (linked c)

pub offset_bounds-y-link : goal.offset_bounds-y-link
offset_bounds-y-link c =
    let own = (branch (goal.at.offset_bounds-y-link c).In-Some).own_in in
    let same = c.requires.same in
    let lt : c.in-Some.link.own < length c.args.y.now = omega (arith, own, same) in
    omega (arith, lt)

pub bounds-y-link : goal.bounds-y-link
bounds-y-link c = let own = (branch (goal.at.bounds-y-link c).In-Some).own_in in let same =
    c.requires.same in omega (arith, own, same)

pub index-who-requires : goal.index-who-requires
index-who-requires c =
    let other = (branch (goal.at.index-who-requires c).In-Some).other_in in let ok =
    c.args.cells.now.whos.ok.0 in omega (arith, other, ok)

pub loop-link-smaller : goal.loop-link-smaller
loop-link-smaller c =
    let k = branch (goal.at.loop-link-smaller c).In-Some in
    let whos = c.args.cells.now.whos.items in
    let nodes = c.args.nodes.now in
    let inv = c.loop-link.invariant in
    let other = c.in-Some.link.other in
    let v = get_or_read whos other c.index-who.result.now k.other_in c.index-who.ensures 0 in
    let lower = k.lower in
    let b = level_some (node_at nodes c.loop-link.who) inv.here inv.is_here in
    let d = level_some (node_at nodes (label_at whos other)) k.parent k.is_parent in
    let e = ap (λ i. level_of (node_at nodes i)) v in
    omega (arith, lower, b, d, e)

pub loop-link-preserved : goal.loop-link-preserved
loop-link-preserved c =
    let here = (goal.at.loop-link-preserved c).In-Some in
    let whos = c.args.cells.now.whos.items in
    let y = c.args.y.now in
    let l = c.in-Some.link in
    let v = get_or_read whos l.other c.index-who.result.now (branch here).other_in
    c.index-who.ensures 0 in
    let less : ℤ = c.min-flow.result in
    let fy : FitsSigned w128 (get_or y l.own (pos 0)) = search rules in
    let fm : FitsSigned w128 less = search rules in
    let value = c.min-flow.ensures.value in
    let low = c.min-flow.ensures.self_bound in
    let has = c.min-flow.ensures.other_bound in
    rw (v, to_z-of_z w128 less fm)
    (way_more whos c.args.cells.now.slots.items c.args.nodes.now y c.args.lacks.now _ c.args.i
    c.loop-link.who _ c.loop-link.invariant c.requires.tree l (linked here) less
    (omega (arith, ints, low)) (omega (arith, ints, has))
    (λ one some. omega (arith, ints, clamps, value, one, some)))

pub returns-clause-way : goal.returns-clause-way
returns-clause-way c =
    let whos = c.args.cells.now.whos.items in
    let slots = c.args.cells.now.slots.items in
    let inv = c.loop-link.invariant in
    let who = c.loop-link.who in
    let none = sym (c.link_of.ensures inv.here inv.is_here) ∙ c.in_default.is in
    let less : ℤ = c.min.result in
    let fl : FitsSigned w128 (get_or c.args.lacks.now who (pos 0)) = search rules in
    let low = c.min.ensures.self_bound in
    let lack = c.min.ensures.other_bound in
    let fm : FitsSigned w128 less = search rules in
    rw (to_z-of_z w128 less fm) (way_done whos slots c.args.nodes.now c.args.y.now c.args.lacks.now
    _ c.args.i who _ inv none less (omega (arith, ints, low)) (omega (arith, ints, lack)))

pub loop-link-init : goal.loop-link-init
loop-link-init c =
    let fo : FitsSigned w128 c.args.most = c.ranges.most in
    let (b, is) = c.requires.found in
    simp to_z-of_z (way_begun c.args.cells.now.whos.items c.args.cells.now.slots.items
    c.args.nodes.now c.args.y.now c.args.lacks.now c.args.most c.args.i b is)

pub returns-clause-most : goal.returns-clause-most
returns-clause-most c =
    let less : ℤ = c.min.result in
    let fm : FitsSigned w128 less = search rules in
    let low = c.min.ensures.self_bound in
    let under = c.loop-link.invariant.under in
    rw (to_z-of_z w128 less fm) (omega (arith, ints, low, under))

pub returns-clause-some : goal.returns-clause-some
returns-clause-some c =
    let inv = c.loop-link.invariant in
    let who = c.loop-link.who in
    let none = sym (c.link_of.ensures inv.here inv.is_here) ∙ c.in_default.is in
    let less : ℤ = c.min.result in
    let fl : FitsSigned w128 (get_or c.args.lacks.now who (pos 0)) = search rules in
    let fm : FitsSigned w128 less = search rules in
    let value = c.min.ensures.value in
    let fo : FitsSigned w128 c.args.most = c.ranges.most in
    rw (to_z-of_z w128 less fm) (λ full roots one. way_some c.args.cells.now.whos.items
    c.args.cells.now.slots.items c.args.nodes.now c.args.y.now c.args.lacks.now _ c.args.i who _
    inv none less (λ one some. omega (arith, ints, clamps, value, one, some)) full roots
    (rw (to_z-of_z w128 c.args.most fo) one))
