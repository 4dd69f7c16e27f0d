use Rattle.std.proofs.Common.{◌≡◌, ◌^◌, ◌∙◌, length, ap, sym}
use Rattle.std.proofs.lemmas.Int.{to_z-of_z}
use mir.Syntax.{w128}
use Rattle.sfm_law.proofs.Fits.{factor_fits}
use Rattle.sfm_simple.proofs.TableRooms.{table-capacity}
use Rattle.sfm_simple.proofs.table.TablePlain.room_of.Goals as goal

pub returns : goal.returns
returns c =
    let r = c.requires in
    let s = c.args.self.now in
    let counted : length s.values ≡ 2 ^ length c.args.at.now.x.now = s.counted
    ∙ ap (λ n. 2 ^ n) (sym r.entries) in
    let is = simp (to_z-of_z w128 c.args.at.now.q (factor_fits _ c.requires.factor)) at
    c.least_slack.ensures in
    simp (to_z-of_z w128 c.least_slack.result (record { sfits = c.least_slack.type_inv }))
    (table-capacity c.args.at.now.q s.values c.args.at.now.x.now counted r.base c.args.u
    c.args.v r.from r.onto r.apart c.least_slack.result is)
