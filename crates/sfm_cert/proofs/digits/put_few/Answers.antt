use Rattle.std.proofs.Common.{arith}
use Rattle.sfm_cert.proofs.DigitTexts.{digit_behind}
use Rattle.sfm_cert.proofs.digits.put_few.Goals as goal

pub returns-else-n-lt100 : goal.returns-else-n-lt100
returns-else-n-lt100 c = digit_behind c.args.page.now _ _ c.args.n
    (omega (arith, c.if-n-lt100.false)) (omega (arith, c.requires)) c.put_pair-else-n-lt100.ensures
    c.put_digit.ensures
