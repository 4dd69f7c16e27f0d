use Rattle.std.proofs.Common.{◌∷◌, []}
use Rattle.sfm_cert.proofs.Pieces.{both}
use Rattle.sfm_cert.proofs.put.put_name.Goals as goal

pub returns : goal.returns
returns g c = both g.O.Out.after g.met.O.Out.joined _ _ _ (32 ∷ []) c.args.name.now
    c.put_byte.ensures c.put.ensures
