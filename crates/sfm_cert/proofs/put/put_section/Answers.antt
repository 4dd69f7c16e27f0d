use Rattle.std.proofs.Common.{◌∷◌, [], append_assoc}
use Rattle.sfm_cert.specs.Answer.{at_line, text_of}
use Rattle.sfm_cert.specs.LineLists.{base_lines}
use Rattle.sfm_cert.proofs.Pieces.{three}
use Rattle.sfm_cert.proofs.put.put_section.Goals as goal

pub returns : goal.returns
returns g c =
    let s = c.args.slope.now in
    simp append_assoc (simp append_assoc at
    (three g.O.Out.after g.met.O.Out.joined _ _ _ _ (at_line s.num s.den) (10 ∷ [])
    (text_of (base_lines c.args.instance.now.lines 1 c.args.bases.now))
    c.put_at.ensures c.put_byte.ensures c.put_rows.ensures))
