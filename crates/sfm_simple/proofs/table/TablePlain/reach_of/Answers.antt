use Rattle.std.proofs.Common.{◌≡◌, ◌^◌, ◌∙◌, length, ap, sym, arith, FitsSigned}
use Rattle.std.proofs.lemmas.Int.{to_z-of_z}
use mir.Syntax.{w128}
use Rattle.sfm_law.proofs.Fits.{factor_fits}
use Rattle.sfm_simple.proofs.TableRooms.{table-reach}
use Rattle.sfm_simple.proofs.table.TablePlain.reach_of.Goals as goal

pub returns-clause-reached : goal.returns-clause-reached
returns-clause-reached c =
    let r = c.requires in
    let s = c.args.self.now in
    let fq : FitsSigned w128 c.args.at.now.q = factor_fits _ c.requires.factor in
    let counted : length s.values ≡ 2 ^ length c.args.at.now.x.now = s.counted
    ∙ ap (λ n. 2 ^ n) (sym r.entries) in
    let kept = simp to_z-of_z at c.keep_tight.ensures.kept in
    table-reach c.args.at.now.q s.values c.args.at.now.x.now counted r.base c.args.u r.from
    c.all_but.new.to c.keep_tight.new.to
    (c.keep_tight.ensures.places ∙ (c.all_but.ensures.places ∙ r.room_for_answer))
    (λ v h. c.all_but.ensures.others v (omega (arith, h, r.room_for_answer))) kept
