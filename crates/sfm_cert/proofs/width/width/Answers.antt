use Rattle.std.proofs.Common.{◌<◌, ◌^◌, rules, arith}
use Rattle.sfm_cert.proofs.Widths.{few_digits}
use Rattle.sfm_cert.proofs.width.width.Goals as goal

pub overflow_add-result : goal.overflow_add-result
overflow_add-result c =
    let small : c.unsigned_abs.result < 2 ^ 128 = search rules in
    let few = few_digits c.unsigned_abs.result small in
    let digits = c.digits_of-digits.ensures in
    omega (arith, few, digits)
