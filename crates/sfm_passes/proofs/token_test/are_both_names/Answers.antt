use Rattle.std.proofs.Common.{refl}
use Rattle.std.proofs.lemmas.Bool.{false≢true}
use Rattle.sfm_passes.proofs.LongLabels.{first-wrong, second-by}
use Rattle.sfm_passes.proofs.token_test.are_both_names.Goals as goal

pub returns-then-not-is_name : goal.returns-then-not-is_name
returns-then-not-is_name c = first-wrong c.args.tail.now c.args.head.now
    (λ is. false≢true (c.if-not-is_name.ensures.1 is))

pub returns : goal.returns
returns c = second-by c.args.tail.now c.args.head.now (c.if-not-is_name.ensures.0 refl)
    c.is_name-2.result c.is_name-2.ensures
