use Rattle.std.proofs.Common.{rules, ◌∷◌, []}
use Rattle.std.specs.Fmt.{signed_decimal}
use Rattle.sfm_cert.proofs.Pieces.{both}
use Rattle.sfm_cert.proofs.put.put_entry.Goals as goal

pub returns : goal.returns
returns g c = both g.O.Out.after g.met.O.Out.joined _ _ _ (32 ∷ []) (signed_decimal c.args.a)
    c.put_byte.ensures (search rules)
