-- The levels of some weights are one list, none of them below 0.
use Rattle.std.proofs.Common.{◌≡◌, zero, suc, List, [], ◌∷◌, get_or, Contains, ℤ, pos, ◌≤ℤ◌, ◌<ℤ◌, refl, ap, ◌∙◌, arith}
use Rattle.std.specs.List.{All}
use Rattle.std.proofs.lemmas.Int.{ints}
use Rattle.std.proofs.lemmas.List.{get_or_default}
use Rattle.sfm_layers.specs.Weights.{AreLevels}
use Rattle.sfm_layers.proofs.Levels.{AreFalling, falling-of}

pub levels-low : (weights levels : List ℤ) → All (λ a. pos 1 ≤ℤ a) weights
    → AreLevels weights levels → All (λ v. pos 0 ≤ℤ v) levels
levels-low weights levels positive are k d l =
    let (i, li, is) = (are.all (get_or levels k d)).1
    (k, l, get_or_default levels k (get_or levels k d) d l) in
    let p : pos 1 ≤ℤ get_or levels k d = rw is at (positive i (get_or levels k d) li) in
    omega (arith, ints, p)

pub levels-falling : (weights levels : List ℤ) → All (λ a. pos 1 ≤ℤ a) weights
    → AreLevels weights levels → AreFalling levels
levels-falling weights levels positive are =
    falling-of levels are.falling (levels-low weights levels positive are)

-- what is in the list is its first, or below that
head-most : (v x : ℤ) (levels : List ℤ) → AreFalling (v ∷ levels) → Contains (v ∷ levels) x → x ≤ℤ v
head-most v x levels f (zero, l, is) = let e : v ≡ x = is in omega (arith, ints, e)
head-most v x levels f (suc i, l, is) =
    let less : x <ℤ v = rw is at (f.1 i x (omega (arith, l))) in omega (arith, ints, less)

-- what is below the first is in the rest
in-rest : (v x : ℤ) (levels : List ℤ) → x <ℤ v → Contains (v ∷ levels) x → Contains levels x
in-rest v x levels less (zero, l, is) = let e : v ≡ x = is in absurd (omega (arith, ints, less, e))
in-rest v x levels less (suc i, l, is) = (i, omega (arith, l), is)

rest-in : (u v x : ℤ) (a b : List ℤ) → AreFalling (u ∷ a) → u ≡ v → Contains a x
    → (Contains (u ∷ a) x → Contains (v ∷ b) x) → Contains b x
rest-in u v x a b f e (i, l, is) to =
    let less : x <ℤ u = rw is at (f.1 i x l) in
    in-rest v x b (omega (arith, ints, less, e)) (to (suc i, omega (arith, l), is))

falling-same : (a b : List ℤ) → AreFalling a → AreFalling b
    → ((x : ℤ) → Contains a x → Contains b x) → ((x : ℤ) → Contains b x → Contains a x) → a ≡ b
falling-same [] [] f g to from = refl
falling-same [] (v ∷ b) f g to from =
    let (i, l, is) = from v (0, omega arith, refl) in absurd (omega (arith, l))
falling-same (u ∷ a) [] f g to from =
    let (i, l, is) = to u (0, omega arith, refl) in absurd (omega (arith, l))
falling-same (u ∷ a) (v ∷ b) f g to from =
    let below = head-most v u b g (to u (0, omega arith, refl)) in
    let above = head-most u v a f (from v (0, omega arith, refl)) in
    let first : u ≡ v = omega (arith, ints, below, above) in
    let back : v ≡ u = omega (arith, ints, below, above) in
    let rest = falling-same a b f.2 g.2 (λ x c. rest-in u v x a b f first c (to x))
    (λ x c. rest-in v u x b a g back c (from x)) in
    ap (λ x. x ∷ a) first ∙ ap (λ l. v ∷ l) rest

-- the levels of weights of 1 or more are one list
pub levels-one : (weights a b : List ℤ) → All (λ w. pos 1 ≤ℤ w) weights → AreLevels weights a
    → AreLevels weights b → a ≡ b
levels-one weights a b positive h g =
    falling-same a b (levels-falling weights a positive h) (levels-falling weights b positive g)
    (λ x c. (g.all x).0 ((h.all x).1 c)) (λ x c. (h.all x).0 ((g.all x).1 c))
