-- The sum of min(z, 0) over a list of numbers.
use Rattle.std.proofs.Common.{◌≡◌, ℕ, zero, suc, ◌+◌, ◌^◌, ◌<◌, ◌≤◌, Bool, List, [], ◌∷◌, length, get_or, drop, replicate, ℤ, pos, negsuc, neg_ℤ, ◌+ℤ◌, ◌≤ℤ◌, nat_abs, refl, ap, ◌∙◌, arith}
use Rattle.std.specs.Int.{int_min}
use Rattle.std.proofs.lemmas.Int.{ints, clamps}
use Rattle.std.proofs.lemmas.List.{drop_more}
use Rattle.sfm_spec.proofs.Sums.{magnitudes-drop}
use Rattle.sfm_spec.specs.Sets.{magnitudes}
use Rattle.sfm_spec.specs.Bounds.{IsEntry}
use Rattle.sfm_spec.specs.Families.{Meaning, IsMinimiser, Prove, deficit, rest_at, shifted_at}
use Rattle.sfm_law.specs.Rest.{IsRest}
use Rattle.sfm_law.proofs.Rests.{magnitudes-replicate}

abbrev pub deficit_list : List ℤ → ℤ
deficit_list [] = pos 0
deficit_list (a ∷ z) = int_min a (pos 0) +ℤ deficit_list z

-- it is the deficit of the list read place by place
pub deficit-list : (z : List ℤ) → deficit_list z ≡ deficit (length z) (λ e. get_or z e (pos 0))
deficit-list [] = refl
deficit-list (a ∷ z) = ap (λ y. int_min a (pos 0) +ℤ y) (deficit-list z)

-- the deficits of two functions that agree at the first n places
pub deficit-same : (n : ℕ) (f g : ℕ → ℤ) → ((e : ℕ) → e < n → f e ≡ g e) → deficit n f ≡ deficit n g
deficit-same zero f g h = refl
deficit-same (suc n) f g h =
    ap (λ y. int_min y (pos 0) +ℤ deficit n (λ e. f (suc e))) (h 0 (omega arith))
    ∙ ap (λ y. int_min (g 0) (pos 0) +ℤ y)
    (deficit-same n (λ e. f (suc e)) (λ e. g (suc e)) (λ e l. h (suc e) (omega arith)))

-- the sum, one number further
pub deficit-drop : (z : List ℤ) (i : ℕ) → i < length z
    → deficit_list (drop i z) ≡ (int_min (get_or z i (pos 0)) (pos 0) +ℤ deficit_list
    (drop (i + 1) z))
deficit-drop z i h = ap deficit_list (drop_more z i (pos 0) h)

-- magnitudes are not negative
pub magnitudes-low : (z : List ℤ) → pos 0 ≤ℤ magnitudes z
magnitudes-low [] = omega (arith, ints)
magnitudes-low (a ∷ z) = let r = magnitudes-low z in omega (arith, ints, r)

-- min(a, 0) lies between the magnitude of a, negated, and 0
pub min_small : (a : ℤ) → (int_min a (pos 0) ≤ℤ pos 0)
    × (neg_ℤ (pos (nat_abs a)) ≤ℤ int_min a (pos 0))
min_small (pos n) = (omega (arith, ints, clamps), omega (arith, ints, clamps))
min_small (negsuc n) = (omega (arith, ints, clamps), omega (arith, ints, clamps))

-- what a sum is one number further, with its bounds
pub deficit_step : (z : List ℤ) (i : ℕ) (sum : ℤ) → i < length z
    → (sum +ℤ deficit_list (drop i z)) ≡ deficit_list z → sum ≤ℤ pos 0
    → magnitudes (drop i z) ≤ℤ (sum +ℤ magnitudes z)
    → (((sum +ℤ int_min (get_or z i (pos 0)) (pos 0)) +ℤ deficit_list (drop (i + 1) z))
    ≡ deficit_list z)
    × ((sum +ℤ int_min (get_or z i (pos 0)) (pos 0)) ≤ℤ pos 0)
    × (magnitudes (drop (i + 1) z)
    ≤ℤ ((sum +ℤ int_min (get_or z i (pos 0)) (pos 0)) +ℤ magnitudes z))
deficit_step z i sum l e h k =
    let d = deficit-drop z i l in
    let m = magnitudes-drop z i l in
    let s = min_small (get_or z i (pos 0)) in
    (omega (arith, ints, e, d), omega (arith, ints, h, s.0), omega (arith, ints, k, m, s.1))

-- a shift of one number for each of few places is small
pub even_small : (shift : List ℤ) (n : ℕ) (p : ℤ) → IsEntry p → n ≤ 256 → shift ≡ replicate n p
    → magnitudes shift ≤ℤ pos (10 ^ 36)
even_small shift n p h few same =
    let m = magnitudes-replicate n p h in rw same (omega (arith, ints, m, few))

-- where bases prove, each minimiser has the deficit as its value
pub value_by_prove : (terms : List Meaning) (n : ℕ) (q : ℤ) (shift : List ℤ) (rows : List (List ℤ))
    (s : List Bool) → Prove terms n q shift rows → IsMinimiser terms n q shift s
    → deficit n (rest_at terms rows shift) ≡ shifted_at terms q shift s
value_by_prove terms n q shift rows s (r, m, same) h =
    let a = h.least r m.places m.allowed in
    let b = m.least s h.places h.allowed in
    omega (arith, ints, a, b, same)

-- the deficit by the list of z
pub deficit_by_rest : (terms : List Meaning) (shift : List ℤ) (rows : List (List ℤ)) (z : List ℤ)
    → IsRest terms shift rows z → deficit (length z) (λ e. get_or z e (pos 0)) ≡ deficit
    (length shift) (rest_at terms rows shift)
deficit_by_rest terms shift rows z h =
    deficit-same (length z) (λ e. get_or z e (pos 0)) (rest_at terms rows shift) h.exact
    ∙ ap (λ n. deficit n (rest_at terms rows shift)) h.places
