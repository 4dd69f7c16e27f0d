-- The sum of all numbers of a list, one after another and over the whole set.
use Rattle.std.proofs.Common.{◌≡◌, ℕ, ◌+◌, ◌<◌, List, [], ◌∷◌, length, get_or, drop, ℤ, pos, ◌+ℤ◌, refl, ap}
use Rattle.std.proofs.lemmas.List.{drop_more}
use Rattle.sfm_spec.specs.Bounds.{total_of}
use Rattle.sfm_spec.specs.Sets.{whole_set, sum_over}

pub total_of-drop : (x : List ℤ) (j : ℕ) → j < length x
    → total_of (drop j x) ≡ (get_or x j (pos 0) +ℤ total_of (drop (j + 1) x))
total_of-drop x j h = rw (drop_more x j (pos 0) h) refl

pub total_of-whole : (x : List ℤ) → total_of x ≡ sum_over (whole_set (length x)) x
total_of-whole [] = refl
total_of-whole (a ∷ x) = ap (λ z. a +ℤ z) (total_of-whole x)
