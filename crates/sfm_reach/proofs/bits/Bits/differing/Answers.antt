use Rattle.std.proofs.Common.{◌+◌, ◌%◌, refl, arith}
use Rattle.std.proofs.lemmas.Nat.Bits.{bit_at_xor}
use Rattle.std.specs.Int.Bits.{bit_xor}
use Rattle.sfm_reach.proofs.Words.{made_by_words, bit_in-lt}
use Rattle.sfm_reach.proofs.bits.Bits.differing.Goals as goal

pub returns : goal.returns
returns c = λ e.
    let s = c.args.self.now in
    let o = c.args.other.now in
    let r = made_by_words (λ a b. bit_xor a b) (λ a b. (a + b) % 2) s o e refl (omega arith)
    (omega arith) bit_at_xor in
    let ls = bit_in-lt s e in
    let lo = bit_in-lt o e in
    ((λ none. omega (arith, none, r, ls, lo)), (λ same. omega (arith, same, r, ls, lo)))
