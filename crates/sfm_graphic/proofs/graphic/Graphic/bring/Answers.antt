use Rattle.std.proofs.Common.{◌≡◌, ◌*ℤ◌, length, to_z, of_z, refl}
use Rattle.std.proofs.lemmas.Bool.{both_ways}
use mir.Syntax.{w128}
use Rattle.sfm_law.proofs.Fits.{product_low}
use Rattle.sfm_matroid.proofs.Fits.{capped_amounts}
use Rattle.sfm_matroid.proofs.Passed.{cap_passed}
use Rattle.sfm_graphic.specs.Numbered.{numbered, vertex_count}
use Rattle.sfm_graphic.proofs.GraphicBases.{capped_base, edges_sized, end_amounts}
use Rattle.sfm_graphic.proofs.GraphicRooms.{base_split}
use Rattle.sfm_graphic.proofs.Noted.{note_brought}
use Rattle.sfm_graphic.proofs.graphic.Graphic.bring.Goals.{After-cap_of-cap}
use Rattle.sfm_graphic.proofs.graphic.Graphic.bring.Goals as goal

cap_is : (c : After-cap_of-cap)
    → to_z w128 (of_z w128 c.cap_of-cap.result) ≡ (c.args.at.now.q *ℤ c.args.self.now.w)
cap_is c = let s = c.args.self.now in cap_passed c.args.at.now.q s.w c.requires.base.factor s.given
    c.cap_of-cap.result c.cap_of-cap.ensures.value

pub brought-requires-clause-amounts : goal.brought-requires-clause-amounts
brought-requires-clause-amounts c =
    let b = c.requires.base in
    let s = c.args.self.now in
    let cap = c.cap_of-cap.ensures in
    end_amounts s c.cap_of-cap.result cap.low cap.high c.args.at.now.x.now b.sized
    (capped_amounts _ _ (capped_base s c.args.at.now.q b.factor c.args.at.now.x.now b.sized
    b.base))

pub unreachable-requires : goal.unreachable-requires
unreachable-requires c =
    let b = c.requires.base in
    let s = c.args.self.now in
    let told = rw (s.of_ends, s.counted, cap_is (goal.at.unreachable-requires c).After-cap_of-cap)
    at c.in_ok-brought.ensures.told in
    both_ways _ c.if-not-branch.true
    (told.1 (base_split (length s.places) c.args.at.now.q s.w s.ends s.same_count
    (product_low c.args.at.now.q s.w b.factor s.low) c.args.at.now.x.now b.sized b.base
    c.args.root c.requires.vertex))

pub returns-clause-noted : goal.returns-clause-noted
returns-clause-noted c =
    let s = c.args.self.now in
    let there = rw (s.of_ends, s.counted, cap_is (goal.at.returns-clause-noted c).After-cap_of-cap)
    at c.in_ok-brought.ensures.brought in
    let b = c.requires.base in
    note_brought (numbered s.ends) (vertex_count s.ends) (c.args.at.now.q *ℤ s.w)
    c.args.at.now.x.now c.args.note.now.pair _ (edges_sized s c.args.at.now.x.now b.sized)
    c.requires.over refl refl (there c.if-not-branch.false)
