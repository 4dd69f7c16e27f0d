use Rattle.std.proofs.Common.{◌≡◌, ◌∷◌, [], append_assoc, FitsSigned}
use Rattle.std.specs.Prelude.{codes}
use Rattle.std.proofs.lemmas.Int.{to_z-of_z}
use mir.Syntax.{w128}
use Rattle.sfm_cert.specs.Answer.{listed, slope_text}
use Rattle.sfm_cert.proofs.AnswerLines.{entry_fits, factor_fits}
use Rattle.sfm_cert.proofs.Pieces.{four}
use Rattle.sfm_cert.proofs.put.put_break.Goals as goal

pub returns : goal.returns
returns g c =
    let b = c.args.b.now in
    let f : FitsSigned w128 b.slope.num = entry_fits _ b.slope.entry in
    let h : FitsSigned w128 b.slope.den = factor_fits _ b.slope.factor in
    let put : c.put_slope.new.out ≡ g.O.Out.after c.put.new.self
    (slope_text b.slope.num b.slope.den) = simp to_z-of_z at c.put_slope.ensures in
    simp append_assoc (simp append_assoc at
    (four g.O.Out.after g.met.O.Out.joined _ _ _ _ _ (codes "slope ")
    (slope_text b.slope.num b.slope.den) (listed c.args.instance.now.names b.set) (10 ∷ [])
    c.put.ensures put c.put_names.ensures c.put_byte.ensures))
