use Rattle.std.proofs.Common.{get_or, length, pos, rules, FitsSigned}
use Rattle.std.proofs.lemmas.Int.{to_z-of_z}
use Rattle.std.proofs.lemmas.List.Elements.{All-get_or}
use mir.Syntax.{w128}
use Rattle.sfm_assign.specs.Splits.{IsAmount}
use Rattle.sfm_law.proofs.Fits.{product_low}
use Rattle.sfm_matroid.proofs.Fits.{amount_fits, capped_amounts}
use Rattle.sfm_graphic.proofs.GraphicBases.{capped_base}
use Rattle.sfm_graphic.proofs.GraphicRooms.{split_room}
use Rattle.sfm_graphic.proofs.graphic.GraphicTerm.room.Goals as goal

pub returns-clause-room : goal.returns-clause-room
returns-clause-room c =
    let b = c.requires.based in
    let pair = c.requires.pair in
    let s = c.args.self.now in
    let at = c.args.at.now in
    let fm : FitsSigned w128 c.in_ok-most.most = search rules in
    let fv : FitsSigned w128 (get_or at.x.now c.args.v (pos 0)) = amount_fits _
    (All-get_or IsAmount at.x.now c.args.v (pos 0) pair.onto
    (capped_amounts _ at.x.now (capped_base s at.q b.factor at.x.now b.entries b.base))) in
    let most = simp to_z-of_z at c.in_ok-most.ensures.room in
    simp to_z-of_z (split_room (length s.places) at.q s.w s.ends s.same_count
    (product_low at.q s.w b.factor s.low) at.x.now b.entries b.base c.args.u c.args.v pair.from
    pair.onto pair.apart _ most)
