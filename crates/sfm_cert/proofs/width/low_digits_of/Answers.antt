use Rattle.std.proofs.Common.{◌<◌, ◌^◌, rules, arith}
use Rattle.sfm_cert.proofs.Widths.{four_less, few_digits}
use Rattle.sfm_cert.proofs.width.low_digits_of.Goals as goal

pub overflow_add-count : goal.overflow_add-count
overflow_add-count c =
    let fits : c.args.n < 2 ^ 64 = search rules in
    let few = few_digits c.args.n (omega (arith, fits)) in
    let digits = c.loop-low.invariant.digits in
    let fits : c.loop-low.low < 2 ^ 64 = search rules in
    let less = four_less c.loop-low.low c.loop-low-test.true (omega (arith, fits)) in
    omega (arith, few, digits, less)

pub loop-low-preserved : goal.loop-low-preserved
loop-low-preserved c =
    let fits : c.loop-low.low < 2 ^ 64 = search rules in
    let digits = c.loop-low.invariant.digits in
    let less = four_less c.loop-low.low c.loop-low-test.true (omega (arith, fits)) in
    record { digits = omega (arith, digits, less) }

pub overflow_add-result : goal.overflow_add-result
overflow_add-result c =
    let fits : c.args.n < 2 ^ 64 = search rules in
    let few = few_digits c.args.n (omega (arith, fits)) in
    let digits = c.loop-low.invariant.digits in
    let last = c.few_digits_of.ensures in
    omega (arith, few, digits, last)
