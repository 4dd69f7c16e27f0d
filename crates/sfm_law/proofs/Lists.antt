-- Lists of objects and of their meanings, place by place.
use Rattle.std.proofs.Common.{◌≡◌, ℕ, zero, suc, ◌<◌, List, [], ◌∷◌, length, map, get_or, ℤ, pos, ◌≤ℤ◌, refl, sym, ap, arith}
use Rattle.std.specs.List.{All}
use Rattle.std.proofs.lemmas.Int.{ints}
use Rattle.std.proofs.lemmas.List.{length-map, get_or-map}
use Rattle.std.proofs.lemmas.List.Elements.{All-get_or, All-head, All-tail, All-nil, All-cons}
use Rattle.sfm_spec.specs.Sets.{IsPlaced}
use Rattle.sfm_spec.specs.Terms.{SetFunction}
use Rattle.sfm_spec.specs.Bounds.{total_of}
use Rattle.sfm_spec.specs.Families.{Meaning, meanings, ArePlaced, AreBases}
use Rattle.sfm_spec.specs.Walks.{term_at}

-- as many meanings as objects
pub length-meanings : {X : Type 0} (places : X → List ℕ) (value : X → SetFunction) (xs : List X)
    → length (meanings places value xs) ≡ length xs
length-meanings places value [] = refl
length-meanings places value (x ∷ xs) = ap suc (length-meanings places value xs)

-- the meaning of an object that was read
pub meanings-at : {X : Type 0} (places : X → List ℕ) (value : X → SetFunction) (xs : List X) (i : ℕ)
    (x : X) → i < length xs → x ≡ get_or xs i x
    → term_at (meanings places value xs) i ≡ record { places = places x; value = value x }
meanings-at places value [] i x l e = absurd (omega arith)
meanings-at places value (y ∷ xs) zero x l e =
    ap (λ z. record { places = places z; value = value z }) (sym e)
meanings-at places value (y ∷ xs) (suc i) x l e = meanings-at places value xs i x (omega arith) e

-- what holds of a function of all objects holds of that of one
pub all-at : {X Y : Type 0} (P : Y → Type 0) (f : X → Y) (xs : List X) (i : ℕ) (x : X)
    → i < length xs → x ≡ get_or xs i x → All P (map f xs) → P (f x)
all-at P f xs i x l e h =
    let lm : i < length (map f xs) = rw length-map l in
    let h' = All-get_or P (map f xs) i (f x) lm h in
    rw (e, ← get_or-map f xs i x (f x) l) h'

-- the places of terms, as the meanings have them
pub placed-meanings : {X : Type 0} (n : ℕ) (places : X → List ℕ) (value : X → SetFunction)
    (xs : List X) → All (IsPlaced n) (map places xs) → ArePlaced n (meanings places value xs)
placed-meanings n places value [] h = tt
placed-meanings n places value (x ∷ xs) h = (
  All-head (IsPlaced n) (places x) (map places xs) h,
  placed-meanings n places value xs (All-tail (IsPlaced n) (places x) (map places xs) h),
)

-- as many bases as terms
pub length-bases : (q : ℤ) (terms : List Meaning) (rows : List (List ℤ)) → AreBases q terms rows
    → length rows ≡ length terms
length-bases q [] [] h = refl
length-bases q [] (x ∷ rows) h = absurd h
length-bases q (t ∷ terms) [] h = absurd h
length-bases q (t ∷ terms) (x ∷ rows) h = ap suc (length-bases q terms rows h.2)

-- of numbers that are not negative, none exceeds the total
pub below-total : (a : List ℤ) (m : ℤ) → All (λ x. pos 0 ≤ℤ x) a → total_of a ≤ℤ m
    → All (λ x. x ≤ℤ m) a
below-total [] m h k = All-nil (λ x. x ≤ℤ m)
below-total (x ∷ a) m h k =
    let hx = All-head (λ y. pos 0 ≤ℤ y) x a h in
    let ha = All-tail (λ y. pos 0 ≤ℤ y) x a h in
    let t = total-low a ha in
    All-cons (λ y. y ≤ℤ m) x a (omega (arith, ints, hx, t, k))
    (below-total a m ha (omega (arith, ints, hx, k))) where
      total-low : (b : List ℤ) → All (λ y. pos 0 ≤ℤ y) b → pos 0 ≤ℤ total_of b
      total-low [] g = omega (arith, ints)
      total-low (y ∷ b) g =
          let gy = All-head (λ y. pos 0 ≤ℤ y) y b g in
          let r = total-low b (All-tail (λ y. pos 0 ≤ℤ y) y b g) in
          omega (arith, ints, gy, r)
