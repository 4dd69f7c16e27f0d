use Rattle.std.proofs.Common.{arith}
use Rattle.sfm_cert.proofs.Labels.{next_layer, next_line}
use Rattle.sfm_cert.proofs.spot.Spot.next.Goals as goal

pub returns-then-self-lines : goal.returns-then-self-lines
returns-then-self-lines c = λ i h l. next_layer c.args.lines.now i c.args.self h l
    (omega (arith, c.if-self-lines.true))

pub returns : goal.returns
returns c = λ i h l.
    next_line c.args.lines.now i c.args.self h l (omega (arith, c.if-self-lines.false))
    c.first_behind.result c.first_behind.ensures.before
    (record { plain = c.first_behind.ensures.plain; layered = c.first_behind.ensures.layered })
