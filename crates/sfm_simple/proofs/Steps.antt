-- The numbers, the sums and the parts of subsets, one place after another.
use Rattle.std.proofs.Common.{◌≡◌, ℕ, suc, ◌+◌, ◌*◌, ◌/◌, ◌%◌, ◌^◌, ◌<◌, Bool, true, false, List, length, get_or, drop, nat_eq, ℤ, pos, ◌+ℤ◌, if◌then◌else◌, refl, ap, arith}
use Rattle.std.proofs.Math.Nat.{pow-succ'}
use Rattle.std.proofs.lemmas.List.{drop_more}
use Rattle.sfm_spec.specs.Kinds.{binary}
use Rattle.sfm_spec.specs.Sets.{sum_over}
use Rattle.sfm_simple.specs.Subsets.{members}

pub binary-drop : (s : List Bool) (j : ℕ) → j < length s
    → binary (drop j s) ≡ (if get_or s j false then 1 else 0) + 2 * binary (drop (j + 1) s)
binary-drop s j h = rw (drop_more s j false h) refl

pub double : (j : ℕ) → 2 ^ (j + 1) ≡ 2 * 2 ^ j
double j = let e : j + 1 ≡ suc j = omega arith in rw e (pow-succ' 2 j)

-- the number so far, and what the rest counts
pub number_with : (s : List Bool) (j n b : ℕ) → j < length s → get_or s j false ≡ true
    → n + 2 ^ j * binary (drop j s) ≡ b → (n + 2 ^ j) + 2 ^ (j + 1) * binary (drop (j + 1) s) ≡ b
number_with s j n b h member e =
    let d = rw member at (binary-drop s j h) in
    let m = ap (λ z. 2 ^ j * z) d in
    let p = ap (λ z. z * binary (drop (j + 1) s)) (double j) in
    omega (arith, e, m, p)

pub number_without : (s : List Bool) (j n b : ℕ) → j < length s → get_or s j false ≡ false
    → n + 2 ^ j * binary (drop j s) ≡ b → n + 2 ^ (j + 1) * binary (drop (j + 1) s) ≡ b
number_without s j n b h member e =
    let d = rw member at (binary-drop s j h) in
    let m = ap (λ z. 2 ^ j * z) d in
    let p = ap (λ z. z * binary (drop (j + 1) s)) (double j) in
    omega (arith, e, m, p)

pub sum_over-members : (x : List ℤ) (i n : ℕ) → i < length x
    → sum_over (members (length (drop i x)) n)
    (drop i x) ≡ ((if nat_eq (n % 2) 1 then get_or x i (pos 0) else pos 0) +ℤ sum_over
    (members (length (drop (i + 1) x)) (n / 2)) (drop (i + 1) x))
sum_over-members x i n h = rw (drop_more x i (pos 0) h) refl
