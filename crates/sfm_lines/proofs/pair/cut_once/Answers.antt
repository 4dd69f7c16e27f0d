use Rattle.std.proofs.Common.{◌+◌, arith}
use Rattle.sfm_lines.proofs.Cuts.{rest-is}
use Rattle.sfm_lines.proofs.Cutting.{first-at, none-at, uncut, uncut-again, cut-first}
use Rattle.sfm_lines.proofs.pair.cut_once.Goals as goal

pub returns-then-at-token : goal.returns-then-at-token
returns-then-at-token c = λ before behind h. uncut c.args.b c.args.token.now before behind
    (none-at c.args.b c.args.token.now c.place_of_byte-at.result c.place_of_byte-at.ensures.place
    c.if-at-token.true) h

pub returns-then-place_of_byte-behind : goal.returns-then-place_of_byte-behind
returns-then-place_of_byte-behind c = λ before behind h.
    let rest = rest-is c.args.token.now (c.place_of_byte-at.result + 1)
    (omega (arith, c.if-at-token.false)) in
    uncut-again c.args.b c.args.token.now c.place_of_byte-at.result c.place_of_byte.result before
    behind (first-at c.args.b c.args.token.now c.place_of_byte-at.result
    c.place_of_byte-at.ensures.place c.if-at-token.false)
    (rw rest at (first-at c.args.b _ c.place_of_byte.result c.place_of_byte.ensures.place
    c.if-place_of_byte-behind.true)) h

pub returns : goal.returns
returns c =
    let rest = rest-is c.args.token.now (c.place_of_byte-at.result + 1)
    (omega (arith, c.if-at-token.false)) in
    rw rest (cut-first c.args.b c.args.token.now c.place_of_byte-at.result
    (first-at c.args.b c.args.token.now c.place_of_byte-at.result
    c.place_of_byte-at.ensures.place c.if-at-token.false)
    (rw rest at (none-at c.args.b _ c.place_of_byte.result c.place_of_byte.ensures.place
    c.if-place_of_byte-behind.false)))
