use Rattle.std.proofs.Common.{rules, append_assoc}
use Rattle.std.specs.Prelude.{codes}
use Rattle.std.specs.Fmt.{signed_decimal}
use Rattle.sfm_cert.proofs.Pieces.{three}
use Rattle.sfm_cert.proofs.put.put_slope.Goals as goal

pub returns : goal.returns
returns g c = simp append_assoc
    (three g.O.Out.after g.met.O.Out.joined _ _ _ _ (signed_decimal c.args.num) (codes "/")
    (signed_decimal c.args.den) (search rules) c.put_byte.ensures (search rules))
