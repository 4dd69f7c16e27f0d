-- Sizes where each element counts one.
use Rattle.std.proofs.Common.{◌≡◌, ℕ, zero, suc, Bool, true, false, List, [], ◌∷◌, length, ℤ, pos, ◌*ℤ◌, ◌≤ℤ◌, refl, ap, ◌∙◌, arith}
use Rattle.std.proofs.lemmas.Int.{ints}
use Rattle.std.proofs.lemmas.List.{length-replicate}
use Rattle.std.proofs.lemmas.List.Elements.{All-replicate}
use Rattle.sfm_spec.specs.Sets.{size, sum_over}
use Rattle.sfm_spec.specs.Bounds.{total_of}
use Rattle.sfm_spec.specs.Families.{even_shift, sized_shift}
use Rattle.sfm_spec.specs.Laws.{ones}
use Rattle.sfm_spec.proofs.Where.{size-cons}
use Rattle.sfm_spec.proofs.Sizes.{AreSizes}

-- a slope shifts each element by its numerator
pub ones-shift : (n : ℕ) (p : ℤ) → sized_shift (ones n) p ≡ even_shift n p
ones-shift zero p = refl
ones-shift (suc n) p =
    let one : (p *ℤ pos 1) ≡ p = omega (arith, ints) in
    ap (λ a. a ∷ sized_shift (ones n) p) one ∙ ap (λ x. p ∷ x) (ones-shift n p)

pub ones-places : (n : ℕ) → length (ones n) ≡ n
ones-places n = length-replicate n (pos 1)

pub ones-sizes : (n : ℕ) → AreSizes (ones n)
ones-sizes n = All-replicate (λ w. pos 1 ≤ℤ w) n (pos 1) (omega (arith, ints))

-- the sum over a set is how many places are in it
pub sum-ones : (n : ℕ) (s : List Bool) → length s ≡ n → sum_over s (ones n) ≡ pos (size s)
sum-ones zero [] h = refl
sum-ones zero (b ∷ s) h = absurd (omega arith)
sum-ones (suc n) [] h = absurd (omega arith)
sum-ones (suc n) (true ∷ s) h = let r = sum-ones n s (omega arith) in rw (size-cons true s)
    (omega (arith, ints, r))
sum-ones (suc n) (false ∷ s) h = let r = sum-ones n s (omega arith) in rw (size-cons false s)
    (omega (arith, ints, r))

-- all together there are as many as places
pub total-ones : (n : ℕ) → total_of (ones n) ≡ pos n
total-ones zero = refl
total-ones (suc n) = let r = total-ones n in omega (arith, ints, r)
