-- Numbers that are scaled one after another.
use Rattle.std.proofs.Common.{◌≡◌, ℕ, ◌+◌, ◌<◌, List, [], ◌∷◌, ◌++◌, length, take, set, get_or, ℤ, pos, ◌*ℤ◌, refl, sym, ap, ◌∙◌}
use Rattle.std.proofs.lemmas.List.{map_push, take_more}
use Rattle.std.proofs.lemmas.Grind.{take-set_at}
use Rattle.sfm_simple.specs.WeightLaws.{scaled}

more : (q : ℤ) (weights xs : List ℤ) (j : ℕ) (a : ℤ) → j < length weights
    → xs ≡ scaled q (take j weights) → a ≡ (q *ℤ get_or weights j (pos 0))
    → xs ++ a ∷ [] ≡ scaled q (take (j + 1) weights)
more q weights xs j a kw so_far e =
    ap (λ z. z ++ a ∷ []) so_far
    ∙ ap (λ b. scaled q (take j weights) ++ b ∷ []) e
    ∙ sym (map_push (λ w. q *ℤ w) (take j weights) (get_or weights j (pos 0)))
    ∙ ap (scaled q) (sym (take_more weights j (pos 0) kw))

-- one more of the numbers that are there
pub more_read : (q : ℤ) (weights x : List ℤ) (j : ℕ) → j < length weights → j < length x
    → take j x ≡ scaled q (take j weights) → get_or x j (pos 0) ≡ (q *ℤ get_or weights j (pos 0))
    → take (j + 1) x ≡ scaled q (take (j + 1) weights)
more_read q weights x j kw kx so_far e = take_more x j (pos 0) kx
    ∙ more q weights (take j x) j (get_or x j (pos 0)) kw so_far e

-- and of those that are written
pub more_written : (q : ℤ) (weights x : List ℤ) (j : ℕ) (a : ℤ) → j < length weights → j < length x
    → take j x ≡ scaled q (take j weights) → a ≡ (q *ℤ get_or weights j (pos 0))
    → take (j + 1) (set x j a) ≡ scaled q (take (j + 1) weights)
more_written q weights x j a kw kx so_far e = take-set_at x j (j + 1) a refl kx
    ∙ more q weights (take j x) j a kw so_far e
