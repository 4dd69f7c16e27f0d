use Rattle.std.proofs.Common.{ap, ◌∙◌, arith, rules, FitsSigned}
use Rattle.std.proofs.lemmas.Bool.{eqb-true, false≢true}
use Rattle.std.proofs.lemmas.Int.{ints, to_z-of_z}
use mir.Syntax.{w128}
use mir.Val.{to_z}
use Rattle.sfm_check.specs.Values.{IsSmall, IsWorth}
use Rattle.sfm_check.specs.Offers.{meant}
use Rattle.sfm_check.proofs.minimum.are_worth_least.Goals as goal

pub worth_of-requires-clause-places : goal.worth_of-requires-clause-places
worth_of-requires-clause-places c = c.requires.offer.formed.least

pub returns-in_default : goal.returns-in_default
returns-in_default c = λ yes. absurd (false≢true yes)

pub worth_of-requires-2-clause-places : goal.worth_of-requires-2-clause-places
worth_of-requires-2-clause-places c = c.requires.offer.formed.greatest

pub returns-in_default-2 : goal.returns-in_default-2
returns-in_default-2 c = λ yes. absurd (false≢true yes)

pub deficit_at-requires-clause-bases : goal.deficit_at-requires-clause-bases
deficit_at-requires-clause-bases c = c.requires.offer.formed.bases

pub returns-then-low-least : goal.returns-then-low-least
returns-then-low-least c = λ yes.
    let ms = meant c.args.offer.now in
    let low = c.in-Some.low in
    let high = c.in-Some-2.high in
    let low_is : IsWorth ms c.args.offer.now.sizes.now c.args.offer.now.solved.now.least
    low = rw c.in-Some.is at c.in_ok-low.ensures.worth in
    let high_is : IsWorth ms c.args.offer.now.sizes.now c.args.offer.now.solved.now.greatest
    high = rw c.in-Some-2.is at c.in_ok-high.ensures.worth in
    let low_small : IsSmall low = rw c.in-Some.is at c.in_ok-low.ensures.small in
    let high_small : IsSmall high = rw c.in-Some-2.is at c.in_ok-high.ensures.small in
    let entry = c.requires.offer.formed.value in
    let first = low_small.sum in
    let second = high_small.sum in
    let fv : FitsSigned w128 c.args.offer.now.solved.now.value = omega (arith, ints, entry) in
    let fl : FitsSigned w128 c.in_ok-least.least = search rules in
    let fa : FitsSigned w128 low.sum = omega (arith, ints, first) in
    let fb : FitsSigned w128 high.sum = omega (arith, ints, second) in
    let least = c.in_ok-least.ensures in
    let value = simp to_z-of_z at (ap (to_z w128) c.if-low-least.true.0) in
    let one = simp to_z-of_z at (ap (to_z w128) c.if-low-least.true.1) in
    let two = simp to_z-of_z at (ap (to_z w128) (eqb-true _ _ yes)) in
    record {
      low = low;
      high = high;
      low_is = low_is;
      high_is = high_is;
      value = value ∙ least;
      low_attains = one ∙ least;
      high_attains = two ∙ least;
    }
