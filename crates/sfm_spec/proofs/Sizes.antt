-- Sizes and weights of sets: a set within another has no more, and as much only if it is the same
-- set.
use Rattle.std.proofs.Common.{◌≡◌, ◌⊎◌, ℕ, zero, suc, ◌+◌, ◌<◌, ◌≤◌, Bool, true, false, ◌&&◌, ◌||◌, List, [], ◌∷◌, length, ℤ, pos, ◌+ℤ◌, ◌≤ℤ◌, ◌<ℤ◌, if◌then◌else◌, refl, ap, arith, inl, inr, ⊎_elim}
use Rattle.std.proofs.lemmas.Bool.{false≢true}
use Rattle.std.proofs.lemmas.Int.{ints}
use Rattle.std.proofs.lemmas.List.Elements.{All-head, All-tail}
use Rattle.std.specs.List.{All}
use Rattle.sfm_spec.specs.Sets.{size, union, intersection, whole_set, empty_set, sum_over, IsWithin}
use Rattle.sfm_spec.specs.Bounds.{total_of}
use Rattle.sfm_spec.proofs.Where.{size-cons}

-- each element has a size of at least 1
abbrev pub AreSizes : List ℤ → Type 0
AreSizes sizes = All (λ w. pos 1 ≤ℤ w) sizes

sizes-head : (w : ℤ) (sizes : List ℤ) → AreSizes (w ∷ sizes) → pos 1 ≤ℤ w
sizes-head w sizes h = All-head (λ w. pos 1 ≤ℤ w) w sizes h

sizes-tail : (w : ℤ) (sizes : List ℤ) → AreSizes (w ∷ sizes) → AreSizes sizes
sizes-tail w sizes h = All-tail (λ w. pos 1 ≤ℤ w) w sizes h

-- ---- one set within another

-- what lies within does so without the first places
pub within_tail : (a b : Bool) (s t : List Bool) → IsWithin (a ∷ s) (b ∷ t) → IsWithin s t
within_tail a b s t h e has = h (suc e) has

-- a set within another is the same, or has a smaller weight
pub weight_grows : (s t : List Bool) (sizes : List ℤ) → length s ≡ length t
    → length t ≡ length sizes → AreSizes sizes → IsWithin s t → (s ≡ t)
    ⊎ (sum_over s sizes <ℤ sum_over t sizes)
weight_grows [] [] sizes h k ones inside = inl refl
weight_grows [] (b ∷ t) sizes h k ones inside = absurd (omega arith)
weight_grows (a ∷ s) [] sizes h k ones inside = absurd (omega arith)
weight_grows (a ∷ s) (b ∷ t) [] h k ones inside = absurd (omega arith)
weight_grows (true ∷ s) (false ∷ t) (w ∷ sizes) h k ones inside =
    absurd (false≢true (inside 0 refl))
weight_grows (true ∷ s) (true ∷ t) (w ∷ sizes) h k ones inside =
    more (weight_grows s t sizes (omega arith) (omega arith) (sizes-tail w sizes ones)
    (within_tail true true s t inside)) where
      more : (s ≡ t) ⊎ (sum_over s sizes <ℤ sum_over t sizes) → ((true ∷ s) ≡ (true ∷ t))
          ⊎ ((w +ℤ sum_over s sizes) <ℤ (w +ℤ sum_over t sizes))
      more (inl e) = inl (ap (λ r. true ∷ r) e)
      more (inr l) = inr (omega (arith, ints, l))
weight_grows (false ∷ s) (false ∷ t) (w ∷ sizes) h k ones inside =
    more (weight_grows s t sizes (omega arith) (omega arith) (sizes-tail w sizes ones)
    (within_tail false false s t inside)) where
      more : (s ≡ t) ⊎ (sum_over s sizes <ℤ sum_over t sizes) → ((false ∷ s) ≡ (false ∷ t))
          ⊎ ((pos 0 +ℤ sum_over s sizes) <ℤ (pos 0 +ℤ sum_over t sizes))
      more (inl e) = inl (ap (λ r. false ∷ r) e)
      more (inr l) = inr (omega (arith, ints, l))
weight_grows (false ∷ s) (true ∷ t) (w ∷ sizes) h k ones inside =
    more (weight_grows s t sizes (omega arith) (omega arith) (sizes-tail w sizes ones)
    (within_tail false true s t inside)) where
      more : (s ≡ t) ⊎ (sum_over s sizes <ℤ sum_over t sizes) → ((false ∷ s) ≡ (true ∷ t))
          ⊎ ((pos 0 +ℤ sum_over s sizes) <ℤ (w +ℤ sum_over t sizes))
      more (inl e) = let o = sizes-head w sizes ones in let q = ap (λ r. sum_over r sizes) e in inr
          (omega (arith, ints, o, q))
      more (inr l) = let o = sizes-head w sizes ones in inr (omega (arith, ints, l, o))

-- a set within another has at most its weight
pub weight_within : (s t : List Bool) (sizes : List ℤ) → length s ≡ length t
    → length t ≡ length sizes → AreSizes sizes → IsWithin s t → sum_over s sizes ≤ℤ sum_over t sizes
weight_within s t sizes h k ones inside =
    ⊎_elim (λ e. let q = ap (λ r. sum_over r sizes) e in omega (arith, ints, q))
    (λ l. omega (arith, ints, l)) (weight_grows s t sizes h k ones inside)

-- a set within another is the same, or smaller
pub size_grows : (s t : List Bool) → length s ≡ length t → IsWithin s t → (s ≡ t)
    ⊎ (size s < size t)
size_grows [] [] h inside = inl refl
size_grows [] (b ∷ t) h inside = absurd (omega arith)
size_grows (a ∷ s) [] h inside = absurd (omega arith)
size_grows (true ∷ s) (false ∷ t) h inside = absurd (false≢true (inside 0 refl))
size_grows (true ∷ s) (true ∷ t) h inside =
    more (size_grows s t (omega arith) (within_tail true true s t inside)) where
      more : (s ≡ t) ⊎ (size s < size t) → ((true ∷ s) ≡ (true ∷ t))
          ⊎ (size (true ∷ s) < size (true ∷ t))
      more (inl e) = inl (ap (λ r. true ∷ r) e)
      more (inr l) = inr (rw (size-cons true s, size-cons true t) (omega (arith, l)))
size_grows (false ∷ s) (false ∷ t) h inside =
    more (size_grows s t (omega arith) (within_tail false false s t inside)) where
      more : (s ≡ t) ⊎ (size s < size t) → ((false ∷ s) ≡ (false ∷ t))
          ⊎ (size (false ∷ s) < size (false ∷ t))
      more (inl e) = inl (ap (λ r. false ∷ r) e)
      more (inr l) = inr (rw (size-cons false s, size-cons false t) (omega (arith, l)))
size_grows (false ∷ s) (true ∷ t) h inside =
    inr (more (size_grows s t (omega arith) (within_tail false true s t inside))) where
      more : (s ≡ t) ⊎ (size s < size t) → size (false ∷ s) < size (true ∷ t)
      more (inl e) = let q = ap size e in rw (size-cons false s, size-cons true t)
          (omega (arith, q))
      more (inr l) = rw (size-cons false s, size-cons true t) (omega (arith, l))

-- a set within another is at most as large
pub size_within : (s t : List Bool) → length s ≡ length t → IsWithin s t → size s ≤ size t
size_within s t h inside = ⊎_elim (λ e. let q = ap size e in omega (arith, q))
    (λ l. omega (arith, l)) (size_grows s t h inside)

-- a set has at most as many places as there are
pub size_below_length : (s : List Bool) → size s ≤ length s
size_below_length [] = omega arith
size_below_length (true ∷ s) =
    let r = size_below_length s in rw (size-cons true s) (omega (arith, r))
size_below_length (false ∷ s) =
    let r = size_below_length s in rw (size-cons false s) (omega (arith, r))

-- ---- unions and intersections

-- the sizes of union and intersection add up to those of the sets
pub size-modular : (s t : List Bool) → length s ≡ length t
    → size (union s t) + size (intersection s t) ≡ size s + size t
size-modular [] [] h = refl
size-modular [] (b ∷ t) h = absurd (omega arith)
size-modular (a ∷ s) [] h = absurd (omega arith)
size-modular (a ∷ s) (b ∷ t) h =
    let r = size-modular s t (omega arith) in
    rw (
      size-cons a s,
      size-cons b t,
      size-cons (a || b) (union s t),
      size-cons (a && b) (intersection s t),
    ) (one a b r) where
      one : (a b : Bool) → size (union s t) + size (intersection s t) ≡ size s + size t
          → ((if (a || b) then 1 else 0) + size (union s t))
          + ((if (a && b) then 1 else 0) + size (intersection s t))
          ≡ ((if a then 1 else 0) + size s) + ((if b then 1 else 0) + size t)
      one true true r = omega arith
      one true false r = omega arith
      one false true r = omega arith
      one false false r = omega arith

-- a set that lies in its intersection with another lies within the other
pub within_by_intersection : (s t : List Bool) → length s ≡ length t → intersection s t ≡ s
    → IsWithin s t
within_by_intersection [] [] h k e has = has
within_by_intersection [] (b ∷ t) h k e has = absurd (omega arith)
within_by_intersection (a ∷ s) [] h k e has = absurd (omega arith)
within_by_intersection (true ∷ s) (true ∷ t) h k zero has = refl
within_by_intersection (true ∷ s) (false ∷ t) h k zero has = cc
within_by_intersection (false ∷ s) (b ∷ t) h k zero has = cc
within_by_intersection (a ∷ s) (b ∷ t) h k (suc e) has =
    within_by_intersection s t (omega arith) (cc) e has

-- ---- the empty and the whole set

-- the empty set has none
pub size-empty : (n : ℕ) → size (empty_set n) ≡ 0
size-empty zero = refl
size-empty (suc n) = let r = size-empty n in rw (size-cons false (empty_set n)) (omega (arith, r))

-- the whole set has all
pub size-whole : (n : ℕ) → size (whole_set n) ≡ n
size-whole zero = refl
size-whole (suc n) = let r = size-whole n in rw (size-cons true (whole_set n)) (omega (arith, r))

-- the whole set weighs all sizes together
pub weight-whole : (n : ℕ) (sizes : List ℤ) → length sizes ≡ n
    → sum_over (whole_set n) sizes ≡ total_of sizes
weight-whole zero [] h = refl
weight-whole zero (w ∷ sizes) h = absurd (omega arith)
weight-whole (suc n) [] h = absurd (omega arith)
weight-whole (suc n) (w ∷ sizes) h = ap (λ y. w +ℤ y) (weight-whole n sizes (omega arith))

-- the empty set weighs nothing
pub weight-empty : (n : ℕ) (sizes : List ℤ) → sum_over (empty_set n) sizes ≡ pos 0
weight-empty zero sizes = refl
weight-empty (suc n) [] = refl
weight-empty (suc n) (w ∷ sizes) = let r = weight-empty n sizes in omega (arith, ints, r)
