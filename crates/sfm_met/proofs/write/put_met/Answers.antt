use Rattle.std.proofs.Common.{◌∷◌, ◌++◌, [], refl, sym}
use Rattle.std.specs.Prelude.{codes}
use Rattle.sfm_cert.specs.Answer.{row_lines}
use Rattle.sfm_cert.specs.Solved.{form_of}
use Rattle.sfm_cert.proofs.InstanceLengths.{rows_count}
use Rattle.sfm_cert.proofs.Pieces.{three_lines, appended_lines}
use Rattle.sfm_meet.specs.Told.{met_of}
use Rattle.sfm_met.specs.MetSlots.{told_lines}
use Rattle.sfm_met.specs.MetText.{met_lines}
use Rattle.sfm_met.proofs.write.put_met.Goals as goal

pub put_told-requires-clause-members : goal.put_told-requires-clause-members
put_told-requires-clause-members g c = sym c.requires.members

pub put_rows-requires-clause-count : goal.put_rows-requires-clause-count
put_rows-requires-clause-count g c = rows_count c.args.left.now.terms c.args.met.now.bases.left
    c.requires.left_rows

pub put_rows-requires-2-clause-count : goal.put_rows-requires-2-clause-count
put_rows-requires-2-clause-count g c = rows_count c.args.right.now.terms c.args.met.now.bases.right
    c.requires.right_rows

pub returns : goal.returns
returns g c =
    let m = c.args.met.now in
    let names = c.args.left.now.names in
    let told = told_lines names (met_of m) in
    let lefts = row_lines (codes "left ") c.args.left.now.lines 1 m.bases.left in
    let rights = row_lines (codes "right ") c.args.right.now.lines 1 m.bases.right in
    appended_lines g.O.Out.after g.met.O.Out.joined _ _ _ (told ++ lefts ++ rights)
    (codes "end" ∷ []) (met_lines (form_of c.args.left.now) (form_of c.args.right.now)
    (met_of m))
    (three_lines g.O.Out.after g.met.O.Out.joined _ _ _ _ told lefts rights c.put_told.ensures
    c.put_rows.ensures c.put_rows-2.ensures)
    c.put.ensures refl
