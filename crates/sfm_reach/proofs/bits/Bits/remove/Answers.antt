use Rattle.std.proofs.Common.{◌%◌, refl, ◌∙◌, arith}
use Rattle.std.proofs.lemmas.Nat.Bits.{bit_at_clear_same, bit_at_clear_other}
use mir.Syntax.{w64}
use Rattle.sfm_reach.proofs.Words.{bit-here, bit-other}
use Rattle.sfm_reach.proofs.bits.Bits.remove.Goals as goal

pub returns-clause-out : goal.returns-clause-out
returns-clause-out c = let e = c.args.e in bit-here c.args.self.now _ e _ (omega arith) refl
    ∙ bit_at_clear_same w64 _ (e % 64) (omega arith)

pub returns-clause-others : goal.returns-clause-others
returns-clause-others c = let e = c.args.e in λ k ne. bit-other c.args.self.now _ e _ (omega arith)
    refl k ne (λ apart. bit_at_clear_other w64 _ (e % 64) (omega arith) (k % 64) (omega arith)
    apart)
