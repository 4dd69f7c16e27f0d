use Rattle.std.proofs.Common.{arith, rules}
use Rattle.std.proofs.lemmas.Int.{ints}
use Rattle.sfm_spec.proofs.Sizes.{size_below_length}
use Rattle.sfm_matroid.proofs.Fits.{count_is}
use Rattle.sfm_matroid.proofs.Passed.{given_passed, low_passed}
use Rattle.sfm_matroid.proofs.ranked.worth.Goals as goal

pub ranked-requires-clause-few : goal.ranked-requires-clause-few
ranked-requires-clause-few c =
    let z = count_is c.size.result (search rules) in
    let b = size_below_length c.args.set.now in
    omega (arith, ints, z, c.size.ensures, b, c.requires.few)

pub ranked-requires-clause-low : goal.ranked-requires-clause-low
ranked-requires-clause-low c = low_passed c.args.w c.requires.weight.given c.requires.weight.low

pub ranked-requires-clause-given : goal.ranked-requires-clause-given
ranked-requires-clause-given c = given_passed c.args.w c.requires.weight.given
