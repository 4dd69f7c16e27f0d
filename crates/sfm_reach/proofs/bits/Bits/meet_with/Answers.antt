use Rattle.std.proofs.Common.{min, refl, arith}
use Rattle.std.proofs.lemmas.Nat.Bits.{bit_at_and}
use Rattle.std.specs.Int.Bits.{bit_and}
use Rattle.sfm_reach.proofs.Words.{made_by_words}
use Rattle.sfm_reach.proofs.bits.Bits.meet_with.Goals as goal

pub returns : goal.returns
returns c = λ e. made_by_words (λ a b. bit_and a b) (λ a b. min a b) c.args.self.now
    c.args.other.now e refl (omega arith) (omega arith) bit_at_and
