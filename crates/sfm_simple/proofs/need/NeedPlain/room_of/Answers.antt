use Rattle.std.proofs.Common.{◌≡◌, ◌∙◌, length, get_or, pos, arith, FitsSigned}
use Rattle.std.proofs.lemmas.Int.{to_z-of_z}
use Rattle.std.proofs.lemmas.List.Elements.{All-get_or}
use mir.Syntax.{w128}
use Rattle.sfm_spec.specs.Bounds.{IsEntry}
use Rattle.sfm_law.proofs.Writes.{entry_fits}
use Rattle.sfm_simple.proofs.NeedRooms.{need-uncapped, need-unsplit, need-capacity}
use Rattle.sfm_simple.proofs.need.NeedPlain.room_of.Goals as goal

pub returns-then-u-eq0 : goal.returns-then-u-eq0
returns-then-u-eq0 c =
    let r = c.requires in
    let two = r.entries ∙ c.args.self.now.two in
    let u : c.args.u ≡ 0 = c.if-u-eq0.true in
    let v : c.args._v ≡ 1 = omega (arith, two, u) in
    rw (u, v) (
      need-uncapped c.args.at.now.q c.args.at.now.x.now two r.base,
      need-unsplit c.args.at.now.q (length c.args.at.now.x.now),
    )

pub returns : goal.returns
returns c =
    let r = c.requires in
    let two = r.entries ∙ c.args.self.now.two in
    let v : c.args._v ≡ 0 = omega (arith, two) in
    let u : c.args.u ≡ 1 = omega (arith, two) in
    let f0 : FitsSigned w128 (get_or c.args.at.now.x.now 0 (pos 0)) = entry_fits _
    (All-get_or IsEntry c.args.at.now.x.now 0 (pos 0) (omega (arith, two)) r.small) in
    rw (u, v) (simp to_z-of_z (need-capacity c.args.at.now.q c.args.at.now.x.now two r.base))
