-- What a set and a list of numbers have at the places of a group.
use Rattle.std.proofs.Common.{◌≡◌, ℕ, zero, suc, ◌<◌, Bool, true, false, List, [], ◌∷◌, length, get_or, set, ℤ, pos, ◌+ℤ◌, if◌then◌else◌, sym, ◌∙◌, arith}
use Rattle.std.specs.List.{All}
use Rattle.std.proofs.lemmas.Int.{ints}
use Rattle.std.proofs.lemmas.List.Elements.{All-head, All-tail}
use Rattle.sfm_spec.specs.Sets.{size, sum_over}
use Rattle.sfm_spec.proofs.Sizes.{size-empty, weight-empty}
use Rattle.sfm_rank.proofs.Members.{size-in}
use Rattle.sfm_laminar.specs.Groups.{IsAscending}
use Rattle.sfm_laminar.specs.Masks.{mask, length-mask, sum_listed, fresh, ascending-tail}

sum_over-put : (s : List Bool) (e : ℕ) (b : Bool) (x : List ℤ) → e < length s → length s ≡ length x
    → (sum_over (set s e b) x +ℤ (if get_or s e false then get_or x e (pos 0) else pos 0))
    ≡ (sum_over s x +ℤ (if b then get_or x e (pos 0) else pos 0))
sum_over-put [] e b x h same = absurd (omega arith)
sum_over-put (a ∷ s) e b [] h same = absurd (omega arith)
sum_over-put (a ∷ s) zero b (y ∷ x) h same = omega (arith, ints)
sum_over-put (a ∷ s) (suc e) b (y ∷ x) h same =
    let r = sum_over-put s e b x (omega arith) (omega arith) in omega (arith, ints, r)

sum_over-in : (s : List Bool) (e : ℕ) (x : List ℤ) → e < length s → length s ≡ length x
    → get_or s e false ≡ false → sum_over (set s e true) x ≡ (sum_over s x +ℤ get_or x e (pos 0))
sum_over-in s e x h same out =
    let r = rw out at (sum_over-put s e true x h same) in omega (arith, ints, r)

pub sum-mask : (k : ℕ) (es : List ℕ) (x : List ℤ) → length x ≡ k → IsAscending es
    → All (λ i. i < k) es → sum_over (mask k es) x ≡ sum_listed es x
sum-mask k [] x kx up below = weight-empty k x
sum-mask k (e ∷ es) x kx up below =
    let h = All-head (λ i. i < k) e es below in
    let len = length-mask k es in
    let r = sum-mask k es x kx (ascending-tail e es up) (All-tail (λ i. i < k) e es below) in
    let p = sum_over-in (mask k es) e x (omega (arith, h, len)) (len ∙ sym kx) (fresh k e es up) in
    omega (arith, ints, r, p)

pub size-mask : (k : ℕ) (es : List ℕ) → IsAscending es → All (λ i. i < k) es
    → size (mask k es) ≡ length es
size-mask k [] up below = size-empty k
size-mask k (e ∷ es) up below =
    let h = All-head (λ i. i < k) e es below in
    let len = length-mask k es in
    let r = size-mask k es (ascending-tail e es up) (All-tail (λ i. i < k) e es below) in
    let p = size-in (mask k es) e (omega (arith, h, len)) (fresh k e es up) in
    omega (arith, r, p)
