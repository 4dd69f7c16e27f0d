use Rattle.std.proofs.Common.{◌≡◌, ◌∙◌, ap, ◌*ℤ◌, length, arith, rules, to_z, of_z, FitsSigned}
use Rattle.std.proofs.lemmas.Int.{to_z-of_z}
use mir.Syntax.{w128}
use Rattle.sfm_law.proofs.Fits.{product_low}
use Rattle.sfm_graphic.specs.Numbered.{vertex_capacities, vertex_count}
use Rattle.sfm_assign.specs.declared.kept.Kept.{Kept}
use Rattle.sfm_matroid.proofs.Passed.{cap_passed}
use Rattle.sfm_graphic.proofs.GraphicBases.{capped_base}
use Rattle.sfm_graphic.proofs.GraphicRooms.{end_vertex, ends_hold, grown_capacity}
use Rattle.sfm_graphic.proofs.graphic.GraphicTerm.room_by.Goals.{After-cap_of-cap, After-deref}
use Rattle.sfm_graphic.proofs.graphic.GraphicTerm.room_by.Goals as goal

cap_is : (c : After-cap_of-cap)
    → to_z w128 (of_z w128 c.cap_of-cap.result) ≡ (c.args.at.now.q *ℤ c.args.self.now.w)
cap_is c = let s = c.args.self.now in cap_passed c.args.at.now.q s.w c.requires.based.factor s.given
    c.cap_of-cap.result c.cap_of-cap.ensures.value

-- what the vertices may hold
held : (c : After-deref) → c.deref.result.now ≡ vertex_capacities
    (vertex_count c.args.self.now.ends) (c.args.at.now.q *ℤ c.args.self.now.w)
    c.end_near-root.result
held c = c.deref.ensures.value
    ∙ rw (c.args.self.now.counted, cap_is (goal.at.After-deref c).After-cap_of-cap) at
    c.in_ok-held.ensures

pub pull_of-pull-requires-clause-capped : goal.pull_of-pull-requires-clause-capped
pull_of-pull-requires-clause-capped c =
    let b = c.requires.based in rw (cap_is
    (goal.at.pull_of-pull-requires-clause-capped c).After-cap_of-cap)
    (capped_base c.args.self.now c.args.at.now.q b.factor c.args.at.now.x.now b.entries b.base)

pub raise_spare-requires-clause-held : goal.raise_spare-requires-clause-held
raise_spare-requires-clause-held c =
    let r = c.requires in
    let b = r.based in
    let s = c.args.self.now in
    let at = c.args.at.now in
    let root = end_vertex s c.args.swap.now.u c.end_near-root.result
    (omega (arith, r.pair.from, b.entries)) c.end_near-root.ensures in
    rw (
      r.noted.split,
      held (goal.at.raise_spare-requires-clause-held c).After-deref,
      c.pull_of-pull.ensures.v,
    ) (ends_hold s at.q b.factor at.x.now b.entries b.base
    c.args.swap.now.v c.end_near-root.result c.args.note.now.root r.pair.onto root)

pub returns-clause-room : goal.returns-clause-room
returns-clause-room c =
    let r = c.requires in
    let b = r.based in
    let pair = r.pair in
    let s = c.args.self.now in
    let at = c.args.at.now in
    let p = c.pull_of-pull.ensures in
    let limit = rw (cap_is (goal.at.returns-clause-room c).After-cap_of-cap) at p.limit in
    let fm : FitsSigned w128 c.in_ok-most.most = search rules in
    let most = rw (r.noted.split, held (goal.at.returns-clause-room c).After-deref, p.u, p.v) at
    c.in_ok-most.ensures.most in
    simp to_z-of_z (grown_capacity (length s.places) at.q s.w s.ends s.same_count
    (product_low at.q s.w b.factor s.low) at.x.now b.entries b.base c.args.swap.now.u
    c.args.swap.now.v pair.from pair.onto pair.apart c.end_near-root.result
    c.end_near-root.ensures c.args.swap.now.a _ _ limit most)

pub returns-clause-noted : goal.returns-clause-noted
returns-clause-noted c =
    let told = c.in_ok-most.ensures in
    record {
      split = ap (λ (k : Kept). k.demand) told.kept ∙ c.requires.noted.split;
      spare = told.spare;
      near = rw (held (goal.at.returns-clause-noted c).After-deref) at told.near;
    }
