-- Lists of numbers that are q times others.
use Rattle.std.proofs.Common.{◌≡◌, ℕ, zero, suc, List, [], ◌∷◌, map, replicate, ℤ, pos, ◌*ℤ◌, refl, sym, ap, ◌∙◌, arith}
use Rattle.std.proofs.Math.IntN.{*ℤ-zero}
use Rattle.std.proofs.lemmas.Int.{ints}

pub once : (a : ℤ) → (pos 1 *ℤ a) ≡ a
once a = omega (arith, ints)

-- q times a number, by once that number
pub times-once : (q a : ℤ) → (q *ℤ a) ≡ (q *ℤ (pos 1 *ℤ a))
times-once q a = ap (λ b. q *ℤ b) (sym (once a))

-- one function is q times another one, at each of some things
pub map-times : {X : Type 0} (q : ℤ) (f g : X → ℤ) → ((x : X) → f x ≡ (q *ℤ g x)) → (xs : List X)
    → map f xs ≡ map (λ a. q *ℤ a) (map g xs)
map-times q f g h [] = refl
map-times q f g h (x ∷ xs) = ap (λ a. a ∷ map f xs) (h x)
    ∙ ap (λ r. (q *ℤ g x) ∷ r) (map-times q f g h xs)

-- no number of zeros is changed
pub zeros-times : (q : ℤ) (k : ℕ) → replicate k (pos 0) ≡ map (λ a. q *ℤ a) (replicate k (pos 0))
zeros-times q zero = refl
zeros-times q (suc k) = ap (λ a. a ∷ replicate k (pos 0)) (sym (*ℤ-zero q))
    ∙ ap (λ r. (q *ℤ pos 0) ∷ r) (zeros-times q k)
