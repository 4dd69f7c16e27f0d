use Rattle.std.proofs.Common.{◌∷◌, [], append_assoc}
use Rattle.sfm_cert.specs.LineLists.{numbered}
use Rattle.sfm_cert.specs.Spots.{spot_label}
use Rattle.sfm_cert.proofs.Pieces.{four}
use Rattle.sfm_cert.proofs.put.put_row.Goals as goal

pub returns : goal.returns
returns g c =
    simp append_assoc (four g.O.Out.after g.met.O.Out.joined _ _ _ _ _ c.args.word.now
    (spot_label c.args.spot) (numbered c.args.row.now) (10 ∷ [])
    c.put.ensures c.put_label.ensures c.put_numbers.ensures c.put_byte.ensures)
