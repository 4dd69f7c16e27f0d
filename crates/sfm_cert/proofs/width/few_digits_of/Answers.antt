use Rattle.std.proofs.Common.{sym, arith}
use Rattle.sfm_cert.proofs.Widths.{one_digit, two_digits, three_digits, four_digits}
use Rattle.sfm_cert.proofs.width.few_digits_of.Goals as goal

pub returns-then-n-lt10 : goal.returns-then-n-lt10
returns-then-n-lt10 c = sym (one_digit c.args.n c.if-n-lt10.true)

pub returns-else-n-lt10 : goal.returns-else-n-lt10
returns-else-n-lt10 c = sym (two_digits c.args.n (omega (arith, c.if-n-lt10.false))
    c.if-n-lt100.true)

pub returns-then-n-lt1000 : goal.returns-then-n-lt1000
returns-then-n-lt1000 c = sym (three_digits c.args.n (omega (arith, c.if-n-lt100.false))
    c.if-n-lt1000.true)

pub returns-else-n-lt1000 : goal.returns-else-n-lt1000
returns-else-n-lt1000 c = sym (four_digits c.args.n (omega (arith, c.if-n-lt1000.false)) c.requires)
