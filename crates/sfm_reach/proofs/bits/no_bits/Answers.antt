use Rattle.std.proofs.Common.{◌≡◌, ℕ, zero, suc, List, get_or, ◌∷◌, [], refl, ap, ◌∙◌, ◌/◌, ◌%◌}
use Rattle.std.proofs.lemmas.Nat.Bits.{bit_at-zero}
use Rattle.std.specs.Int.{bit_at}
use Rattle.sfm_reach.proofs.Words.{bit_in-words}
use Rattle.sfm_reach.proofs.bits.no_bits.Goals as goal

four : List ℕ
four = 0 ∷ 0 ∷ 0 ∷ 0 ∷ []

zeros : (k : ℕ) → get_or four k 0 ≡ 0
unfolding four
zeros zero = refl
zeros (suc zero) = refl
zeros (suc (suc zero)) = refl
zeros (suc (suc (suc zero))) = refl
zeros (suc (suc (suc (suc k)))) = refl

pub returns : goal.returns
unfolding four
returns c e = bit_in-words _ e
    ∙ (ap (λ w. bit_at w (e % 64)) (zeros (e / 64)) ∙ bit_at-zero (e % 64))
