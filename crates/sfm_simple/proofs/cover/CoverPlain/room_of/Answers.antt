use Rattle.std.proofs.Common.{get_or, pos, FitsSigned}
use Rattle.std.proofs.lemmas.Int.{to_z-of_z}
use Rattle.std.proofs.lemmas.List.Elements.{All-get_or}
use mir.Syntax.{w128}
use Rattle.sfm_spec.specs.Bounds.{IsEntry}
use Rattle.sfm_law.proofs.Writes.{entry_fits}
use Rattle.sfm_simple.proofs.CoverRooms.{cover-capacity}
use Rattle.sfm_simple.proofs.cover.CoverPlain.room_of.Goals as goal

pub returns : goal.returns
returns c =
    let r = c.requires in
    let s = c.args.self.now in
    let x = c.args.at.now.x.now in
    let f : FitsSigned w128 (get_or x c.args.v (pos 0)) = entry_fits _
    (All-get_or IsEntry x c.args.v (pos 0) r.onto r.small) in
    simp to_z-of_z (cover-capacity c.args.at.now.q s.w r.factor.low s.low x r.base c.args._u
    c.args.v r.from r.onto r.apart)
