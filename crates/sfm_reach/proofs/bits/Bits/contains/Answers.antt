use Rattle.std.proofs.Common.{rules}
use Rattle.sfm_reach.specs.Bits.{bit_in}
use Rattle.sfm_reach.proofs.bits.Bits.contains.Goals as goal

pub returns : goal.returns
unfolding bit_in
returns c = (λ t. search rules, λ e. search rules)
