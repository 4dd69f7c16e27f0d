use Rattle.std.proofs.Common.{◌≡◌, ℕ, true, arith}
use Rattle.std.proofs.lemmas.Bool.{true_from_ne_false}
use Rattle.sfm_reach.specs.Bits.{bit_in}
use Rattle.sfm_reach.proofs.Words.{bit_in-lt}
use Rattle.sfm_reach.proofs.bits.Bits.is_within.Goals as goal

pub returns : goal.returns
returns c = (
  within,
  λ h. true_from_ne_false c.is_empty.result
      (λ none. missed h (c.is_empty.ensures.some none)),
) where
  within : c.is_empty.result ≡ true → (e : ℕ) → bit_in c.args.self.now e ≡ 1
      → bit_in c.args.other.now e ≡ 1
  within t e has =
      let left = c.remove_all.ensures e in
      let none = c.is_empty.ensures.empty t e in
      let below = bit_in-lt c.args.other.now e in
      omega (arith, left, none, has, below)

  missed : ((e : ℕ) → bit_in c.args.self.now e ≡ 1 → bit_in c.args.other.now e ≡ 1) → (e : ℕ)
      × (bit_in c.remove_all.new.self e ≡ 1) → ⊥
  missed h (e, has) =
      let left = c.remove_all.ensures e in
      let below = bit_in-lt c.args.self.now e in
      let own : bit_in c.args.self.now e ≡ 1 = omega (arith, left, has, below) in
      let other = h e own in
      absurd (omega (arith, left, has, own, other))
