use Rattle.std.proofs.Common.{◌≡◌, FitsSigned}
use Rattle.std.specs.Prelude.{codes}
use Rattle.std.proofs.lemmas.Int.{to_z-of_z}
use mir.Syntax.{w128}
use Rattle.sfm_cert.specs.Answer.{slope_text}
use Rattle.sfm_cert.proofs.AnswerLines.{entry_fits, factor_fits}
use Rattle.sfm_cert.proofs.Pieces.{both}
use Rattle.sfm_cert.proofs.put.put_at.Goals as goal

pub returns : goal.returns
returns g c =
    let s = c.args.slope.now in
    let f : FitsSigned w128 s.num = entry_fits _ s.entry in
    let h : FitsSigned w128 s.den = factor_fits _ s.factor in
    let put : c.put_slope.new.out ≡ g.O.Out.after c.put.new.self
    (slope_text s.num s.den) = simp to_z-of_z at c.put_slope.ensures in
    both g.O.Out.after g.met.O.Out.joined _ _ _ (codes "at ") (slope_text s.num s.den) c.put.ensures
    put
