use Rattle.std.proofs.Common.{ℤ}
use Rattle.sfm_side.specs.Sizes.{IsSize}
use Rattle.sfm_passes.proofs.LongNames.{pair-by}
use Rattle.sfm_side.proofs.passes.is_pair_size.Goals as goal

pub returns-in-Some : goal.returns-in-Some
returns-in-Some c = pair-by c.args.token.now _ c.in-Some.ensures
    (λ pair. (value : ℤ) × IsSize pair.1 value) c.is_size.result c.is_size.ensures

pub returns-in-None : goal.returns-in-None
returns-in-None c = λ (pair, h, more). c.in-None.ensures pair h
