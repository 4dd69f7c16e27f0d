use Rattle.std.proofs.Common.{◌≡◌, ◌-◌, ℕ, refl, arith}
use Rattle.std.proofs.lemmas.Nat.Bits.{bit_at_and, bit_at_xor, bit_at-lt}
use Rattle.std.specs.Int.{bit_at}
use Rattle.std.specs.Int.Bits.{bit_and, bit_xor}
use Rattle.sfm_reach.proofs.Words.{made_by_words}
use Rattle.sfm_reach.proofs.bits.Bits.remove_all.Goals as goal

lost : (x y t : ℕ) → bit_at (bit_xor x (bit_and x y)) t ≡ bit_at x t - bit_at y t
lost x y t =
    let w = bit_at_xor x (bit_and x y) t in
    let i = bit_at_and x y t in
    let lx = bit_at-lt x t in
    let ly = bit_at-lt y t in
    omega (arith, w, i, lx, ly)

pub returns : goal.returns
returns c = λ e. made_by_words (λ a b. bit_xor a (bit_and a b)) (λ a b. a - b) c.args.self.now
    c.args.other.now e refl (omega arith) (omega arith) lost
