-- An independent part weighs what all weights make together at most.
use Rattle.std.proofs.Common.{arith}
use Rattle.std.proofs.lemmas.Int.{ints}
use Rattle.sfm_kind.specs.Meanings.{IsIndependentIn}
use Rattle.sfm_layer_tests.proofs.Weighed.{greatest-most, once}
use Rattle.sfm_layer_tests.proofs.layers.made.Goals as goal

pub new-requires-clause-small : goal.new-requires-clause-small
new-requires-clause-small c = λ r is.
    let most = greatest-most (IsIndependentIn c.args.rank) c.args.weights.now _ r
    (λ k d l. (c.requires.weights k d l).0) is in
    rw (c.requires.number, once r) (omega (arith, ints, most, c.requires.small))
