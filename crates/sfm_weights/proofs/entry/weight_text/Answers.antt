use Rattle.std.proofs.Common.{◌+◌, arith}
use Rattle.sfm_lines.proofs.Cuts.{rest-is}
use Rattle.sfm_weights.proofs.Entries.{text-none, text-some}
use Rattle.sfm_weights.proofs.entry.weight_text.Goals as goal

pub returns-then-at-token : goal.returns-then-at-token
returns-then-at-token c = text-none c.args.token.now c.place_of_byte-at.result
    c.place_of_byte-at.ensures.place c.if-at-token.true

pub returns : goal.returns
returns c =
    let rest = rest-is c.args.token.now (c.place_of_byte-at.result + 1)
    (omega (arith, c.if-at-token.false)) in
    rw rest (text-some c.args.token.now c.place_of_byte-at.result c.place_of_byte-at.ensures.place
    c.if-at-token.false)
