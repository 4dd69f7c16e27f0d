-- A weight by the levels at or below it.
use Rattle.std.proofs.Common.{◌≡◌, ℕ, zero, suc, ◌<◌, Bool, true, false, ◌&&◌, List, [], ◌∷◌, length, get_or, Contains, ℤ, pos, ◌+ℤ◌, ◌-ℤ◌, ◌*ℤ◌, ◌≤ℤ◌, ◌<ℤ◌, if◌then◌else◌, refl, sym, ◌∙◌, arith}
use Rattle.std.specs.List.{All}
use Rattle.std.specs.Int.Signed.{le_z}
use Rattle.std.proofs.lemmas.Int.{ints}
use Rattle.std.proofs.lemmas.List.{get_or_default}
use Rattle.std.proofs.lemmas.List.Elements.{All-head, All-tail}
use Rattle.std.proofs.Math.IntN.{*ℤ-zero}
use Rattle.sfm_spec.specs.Sets.{sum_over, intersection, size}
use Rattle.sfm_spec.proofs.Scaled.{times-mono, times-add}
use Rattle.sfm_spec.proofs.Where.{size-cons}
use Rattle.sfm_layers.specs.Weights.{at_least, next_level}
use Rattle.sfm_layers.specs.Layers.{by_levels}

-- descending levels, none below 0
abbrev pub AreFalling : List ℤ → Type 0
AreFalling [] = Unit {0}
AreFalling (v ∷ levels) = (pos 0 ≤ℤ v) × All (λ u. u <ℤ v) levels × AreFalling levels

next_low : (v : ℤ) (levels : List ℤ) → AreFalling (v ∷ levels) → (pos 0 ≤ℤ next_level levels)
    × (next_level levels ≤ℤ v)
next_low v [] h = (omega (arith, ints), h.0)
next_low v (u ∷ levels) h = let l = All-head (λ u. u <ℤ v) u levels
    h.1 in (h.2.0, omega (arith, ints, l))

pub by_levels-mono : (g h : ℤ → ℤ) (levels : List ℤ) → AreFalling levels → ((v : ℤ) → g v ≤ℤ h v)
    → by_levels g levels ≤ℤ by_levels h levels
by_levels-mono g h [] f le = omega (arith, ints)
by_levels-mono g h (v ∷ levels) f le =
    let n = next_low v levels f in
    let one = times-mono (v -ℤ next_level levels) (g v) (h v) (omega (arith, ints, n)) (le v) in
    let rest = by_levels-mono g h levels f.2 le in
    omega (arith, ints, one, rest)

pub by_levels-same : (g h : ℤ → ℤ) (levels : List ℤ) → ((v : ℤ) → Contains levels v → g v ≡ h v)
    → by_levels g levels ≡ by_levels h levels
by_levels-same g h [] e = refl
by_levels-same g h (v ∷ levels) e =
    let one : g v ≡ h v = e v (0, omega arith, refl) in
    let rest = by_levels-same g h levels (λ u (i, l, is). e u (suc i, omega (arith, l), is)) in
    rw (one, rest) refl

pub by_levels-add : (g h : ℤ → ℤ) (levels : List ℤ)
    → by_levels (λ v. g v +ℤ h v) levels ≡ (by_levels g levels +ℤ by_levels h levels)
by_levels-add g h [] = omega (arith, ints)
by_levels-add g h (v ∷ levels) =
    let one = times-add (v -ℤ next_level levels) (g v) (h v) in
    let rest = by_levels-add g h levels in
    omega (arith, ints, one, rest)

by_levels-zero : (levels : List ℤ) → by_levels (λ v. pos 0) levels ≡ pos 0
by_levels-zero [] = refl
by_levels-zero (v ∷ levels) = let z = *ℤ-zero (v -ℤ next_level levels) in let r = by_levels-zero
    levels in omega (arith, ints, z, r)

times-one : (a : ℤ) → (a *ℤ pos 1) ≡ a
times-one a = omega (arith, ints)

-- all levels that are at or below a: as much as the first of them
ones_below : (a : ℤ) (levels : List ℤ) → All (λ u. u ≤ℤ a) levels
    → by_levels (λ v. if le_z v a then pos 1 else pos 0) levels ≡ next_level levels
ones_below a [] h = refl
ones_below a (v ∷ levels) h =
    let t : le_z v a ≡ true = yes v a (All-head (λ u. u ≤ℤ a) v levels h) in
    let r = ones_below a levels (All-tail (λ u. u ≤ℤ a) v levels h) in
    let o = times-one (v -ℤ next_level levels) in
    rw t (omega (arith, ints, r, o))
  where
    yes : (x y : ℤ) → x ≤ℤ y → le_z x y ≡ true
    yes x y l = grind (arith, ints)

-- a level is what the levels at or below it make
pub one_level : (a : ℤ) (levels : List ℤ) → AreFalling levels → Contains levels a
    → by_levels (λ v. if le_z v a then pos 1 else pos 0) levels ≡ a
one_level a [] f (i, l, is) = absurd (omega (arith, l))
one_level a (v ∷ levels) f (zero, l, is) =
    let same : v ≡ a = is in
    let t : le_z v a ≡ true = yes v a (omega (arith, ints, same)) in
    let r = ones_below a levels (λ k d lk. let u = f.1 k d lk in omega (arith, ints, u, same)) in
    let o = times-one (v -ℤ next_level levels) in
    rw t (omega (arith, ints, r, o, same))
  where
    yes : (x y : ℤ) → x ≤ℤ y → le_z x y ≡ true
    yes x y l = grind (arith, ints)
one_level a (v ∷ levels) f (suc i, l, is) =
    let less : a <ℤ v = rw is at (f.1 i a (omega (arith, l))) in
    let t : le_z v a ≡ false = no v a less in
    let r = one_level a levels f.2 (i, omega (arith, l), is) in
    let z = *ℤ-zero (v -ℤ next_level levels) in
    rw t (omega (arith, ints, r, z))
  where
    no : (x y : ℤ) → y <ℤ x → le_z x y ≡ false
    no x y l = grind (arith, ints)

size-one : (b : Bool) (t : List Bool)
    → pos (size (b ∷ t)) ≡ ((if b then pos 1 else pos 0) +ℤ pos (size t))
size-one true t = let c = size-cons true t in omega (arith, ints, c)
size-one false t = let c = size-cons false t in omega (arith, ints, c)

size-out : (t : List Bool) → pos (size (false ∷ t)) ≡ pos (size t)
size-out t = let c = size-cons false t in omega (arith, ints, c)

-- the weight of a set, by how many of its members are of each level or more
pub weight-by-levels : (s : List Bool) (weights levels : List ℤ) → length s ≡ length weights
    → AreFalling levels → ((a : ℤ) → Contains weights a → Contains levels a)
    → sum_over s weights ≡ by_levels (λ v. pos (size (intersection s (at_least v weights)))) levels
weight-by-levels [] weights levels e f all = sym (by_levels-zero levels)
weight-by-levels (b ∷ s) [] levels e f all = absurd (omega arith)
weight-by-levels (b ∷ s) (a ∷ weights) levels e f all =
    let rest = weight-by-levels s weights levels (omega arith) f
    (λ c (i, l, is). all c (suc i, omega (arith, l), is)) in
    at b rest (one_level a levels f (all a (0, omega arith, refl)))
  where
    at : (b : Bool) → sum_over s weights ≡ by_levels
        (λ v. pos (size (intersection s (at_least v weights)))) levels
        → by_levels (λ v. if le_z v a then pos 1 else pos 0) levels ≡ a
        → ((if b then a else pos 0) +ℤ sum_over s weights) ≡ by_levels
        (λ v. pos (size ((b && le_z v a) ∷ intersection s (at_least v weights)))) levels
    at true r one =
        let both = by_levels-add (λ v. if le_z v a then pos 1 else pos 0)
        (λ v. pos (size (intersection s (at_least v weights)))) levels in
        let same = by_levels-same (λ v. pos (size (le_z v a ∷ intersection s (at_least v weights))))
        (λ v. (if le_z v a then pos 1 else pos 0) +ℤ pos
        (size (intersection s (at_least v weights)))) levels
        (λ v h. size-one (le_z v a) (intersection s (at_least v weights))) in
        sym (same ∙ (both ∙ omega (arith, ints, r, one)))
    at false r one =
        let same = by_levels-same (λ v. pos (size (false ∷ intersection s (at_least v weights))))
        (λ v. pos (size (intersection s (at_least v weights)))) levels
        (λ v h. size-out (intersection s (at_least v weights))) in
        sym (same ∙ omega (arith, ints, r))

-- levels as they are told: each below the one before, and each some weight, of which none is below
-- 0
pub falling-of : (levels : List ℤ)
    → ((i j : ℕ) → i < j → j < length levels → get_or levels j (pos 0) <ℤ get_or levels i (pos 0))
    → All (λ v. pos 0 ≤ℤ v) levels → AreFalling levels
falling-of [] f h = tt
falling-of (v ∷ levels) f h = (
  All-head (λ v. pos 0 ≤ℤ v) v levels h,
  (λ k d l. below k d l),
  falling-of levels (λ i j lt l. f (suc i) (suc j) (omega (arith, lt)) (omega (arith, l)))
      (All-tail (λ v. pos 0 ≤ℤ v) v levels h),
) where
  below : (k : ℕ) (d : ℤ) → k < length levels → get_or levels k d <ℤ v
  below k d l = let less = f 0 (suc k) (omega arith)
      (omega (arith, l)) in rw (get_or_default levels k d (pos 0) l) less
