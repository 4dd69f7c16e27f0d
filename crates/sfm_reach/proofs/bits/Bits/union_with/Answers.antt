use Rattle.std.proofs.Common.{max, refl, arith}
use Rattle.std.proofs.lemmas.Nat.Bits.{bit_at_or}
use Rattle.std.specs.Int.Bits.{bit_or}
use Rattle.sfm_reach.proofs.Words.{made_by_words}
use Rattle.sfm_reach.proofs.bits.Bits.union_with.Goals as goal

pub returns : goal.returns
returns c = λ e. made_by_words (λ a b. bit_or a b) (λ a b. max a b) c.args.self.now c.args.other.now
    e refl (omega arith) (omega arith) bit_at_or
