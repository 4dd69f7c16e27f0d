use Rattle.std.proofs.Common.{◌≡◌, ◌∷◌, ◌++◌, [], append_assoc, FitsSigned}
use Rattle.std.specs.Prelude.{codes}
use Rattle.std.specs.Fmt.{signed_decimal}
use Rattle.std.proofs.lemmas.Int.{to_z-of_z}
use mir.Syntax.{w128}
use Rattle.sfm_cert.specs.Answer.{listed}
use Rattle.sfm_cert.specs.LineLists.{numbered}
use Rattle.sfm_cert.proofs.AnswerLines.{entry_fits}
use Rattle.sfm_cert.proofs.Pieces.{seven}
use Rattle.sfm_met.proofs.write.put_told.Goals as goal

pub returns : goal.returns
returns g c =
    let m = c.args.met.now in
    let names = c.args.instance.now.names in
    let f : FitsSigned w128 m.value = entry_fits _ c.requires.value in
    let put : c.put_number.new.out ≡ g.O.Out.after c.put.new.self
    (signed_decimal m.value) = simp to_z-of_z at c.put_number.ensures in
    simp append_assoc (seven g.O.Out.after g.met.O.Out.joined _ _ _ _ _ _ _ _
    (codes "meet 1" ++ 10 ∷ codes "value ") (signed_decimal m.value)
    (10 ∷ codes "set") (listed names m.members) (10 ∷ codes "common") (numbered m.common) (10 ∷ [])
    c.put.ensures put c.put-2.ensures c.put_names.ensures c.put-3.ensures
    (rw c.as_slice.ensures at c.put_numbers.ensures) c.put-4.ensures)
