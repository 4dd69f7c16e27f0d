use Rattle.sfm_cert.proofs.Labels.{first_stands}
use Rattle.sfm_cert.proofs.spot.Spot.first.Goals as goal

pub returns : goal.returns
returns c = first_stands c.args.lines.now c.first_behind.result c.first_behind.ensures.before
    (record { plain = c.first_behind.ensures.plain; layered = c.first_behind.ensures.layered })
