use Rattle.std.proofs.Common.{◌≡◌, ◌∷◌, [], append_assoc, FitsSigned}
use Rattle.std.specs.Prelude.{codes}
use Rattle.std.specs.Fmt.{signed_decimal}
use Rattle.std.proofs.lemmas.Int.{to_z-of_z}
use mir.Syntax.{w128}
use Rattle.sfm_cert.specs.Answer.{listed}
use Rattle.sfm_cert.specs.Header.{header_text}
use Rattle.sfm_cert.proofs.AnswerLines.{entry_fits}
use Rattle.sfm_cert.proofs.Pieces.{eight}
use Rattle.sfm_cert.proofs.write.put_extremes.Goals as goal

pub returns : goal.returns
returns g c =
    let s = c.args.solved.now in
    let names = c.args.instance.now.names in
    let f : FitsSigned w128 s.value = entry_fits _ c.requires.value in
    let put : c.put_number.new.out ≡ g.O.Out.after c.put-2.new.self
    (signed_decimal s.value) = simp to_z-of_z at c.put_number.ensures in
    simp append_assoc (eight g.O.Out.after g.met.O.Out.joined _ _ _ _ _ _ _ _ _
    (header_text c.args.header) (10 ∷ codes "minimum ") (signed_decimal s.value)
    (10 ∷ codes "least") (listed names s.least)
    (10 ∷ codes "greatest") (listed names s.greatest) (10 ∷ [])
    (rw c.text.ensures at c.put.ensures) c.put-2.ensures put c.put-3.ensures c.put_names.ensures
    c.put-4.ensures c.put_names-2.ensures c.put-5.ensures)
