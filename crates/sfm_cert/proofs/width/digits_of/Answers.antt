use Rattle.std.proofs.Common.{◌<◌, ◌^◌, rules, arith}
use Rattle.sfm_cert.proofs.Widths.{tenth, few_digits}
use Rattle.sfm_cert.proofs.width.digits_of.Goals as goal

pub overflow_add-count : goal.overflow_add-count
overflow_add-count c =
    let fits : c.args.n < 2 ^ 128 = search rules in
    let few = few_digits c.args.n fits in
    let digits = c.loop-rest.invariant.digits in
    omega (arith, few, digits)

pub loop-rest-preserved : goal.loop-rest-preserved
loop-rest-preserved c =
    let fits : c.loop-rest.rest < 2 ^ 128 = search rules in
    let digits = c.loop-rest.invariant.digits in
    let large = c.loop-rest-test.true in
    let less = tenth c.loop-rest.rest (omega (arith, large)) fits in
    record { digits = omega (arith, digits, less) }

pub overflow_add-result : goal.overflow_add-result
overflow_add-result c =
    let fits : c.args.n < 2 ^ 128 = search rules in
    let few = few_digits c.args.n fits in
    let digits = c.loop-rest.invariant.digits in
    let last = c.low_digits_of.ensures in
    omega (arith, few, digits, last)
