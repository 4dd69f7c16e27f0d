-- q times a submodular function is one.
use Rattle.std.proofs.Common.{◌≡◌, ℕ, ◌*◌, ℤ, pos, negsuc, neg_ℤ, ◌+ℤ◌, ◌-ℤ◌, ◌*ℤ◌, ◌≤ℤ◌, ◌<ℤ◌, Option, Some, None, IsSome, refl, ap, ◌∙◌, arith}
use Rattle.std.proofs.Math.IntN.{*ℤ-zero}
use Rattle.std.proofs.Math.Nat.{mul-le-mul_left}
use borrow.Author.Differences.{up, down, sum_is_lem, le_out, neg_is, product_is}
use Rattle.std.proofs.lemmas.Int.{ints, by_lt_z}
use Rattle.std.specs.Option.{option_map}
use Rattle.sfm_spec.specs.Sets.{union, intersection}
use Rattle.sfm_spec.specs.Terms.{SetFunction, times, IsFamily, IsSubmodular}

-- what q times an option holds
pub times_some : (q : ℤ) (o : Option ℤ) (c : ℤ) → option_map (λ a. q *ℤ a) o ≡ Some c → (a : ℤ)
    × (o ≡ Some a) × (c ≡ (q *ℤ a))
times_some q None c h = cc
times_some q (Some a) c h = (a, refl, cc)

-- q times a value is a value
pub times_allowed : (q : ℤ) (o : Option ℤ) → IsSome o → IsSome (option_map (λ a. q *ℤ a) o)
times_allowed q None h = cc
times_allowed q (Some a) h = refl

-- and only that
pub times_allowed_back : (q : ℤ) (o : Option ℤ) → IsSome (option_map (λ a. q *ℤ a) o) → IsSome o
times_allowed_back q None h = cc
times_allowed_back q (Some a) h = refl

-- a product over ℤ is read by its factors' two parts, and each fact that is multiplied is given
pub times-mono : (q a b : ℤ) → pos 0 ≤ℤ q → a ≤ℤ b → (q *ℤ a) ≤ℤ (q *ℤ b)
times-mono (pos n) a b h k = omega (arith, ints, mul-le-mul_left n (le_out a b k))
times-mono (negsuc n) a b h k = absurd (omega (arith, ints))

-- q (a + b) = q a + q b
pub times-add : (q a b : ℤ) → (q *ℤ (a +ℤ b)) ≡ ((q *ℤ a) +ℤ (q *ℤ b))
times-add q a b = omega (
  arith,
  ints,
  ap (λ z. up q * z) (sum_is_lem a b),
  ap (λ z. down q * z) (sum_is_lem a b),
)

-- q (-a) = -(q a)
pub times-neg : (q a : ℤ) → (q *ℤ neg_ℤ a) ≡ neg_ℤ (q *ℤ a)
times-neg q a = omega (
  arith,
  ints,
  ap (λ z. up q * z) (neg_is a).0,
  ap (λ z. down q * z) (neg_is a).0,
  ap (λ z. up q * z) (neg_is a).1,
  ap (λ z. down q * z) (neg_is a).1,
)

-- a b = b a
pub times-comm : (a b : ℤ) → (a *ℤ b) ≡ (b *ℤ a)
times-comm a b = omega (arith, ints)

-- (a b) c = a (b c)
pub times-assoc : (a b c : ℤ) → ((a *ℤ b) *ℤ c) ≡ (a *ℤ (b *ℤ c))
times-assoc a b c = omega (
  arith,
  ints,
  ap (λ z. z * up c) (product_is a b).0,
  ap (λ z. z * down c) (product_is a b).0,
  ap (λ z. z * up c) (product_is a b).1,
  ap (λ z. z * down c) (product_is a b).1,
  ap (λ z. up a * z) (product_is b c).0,
  ap (λ z. down a * z) (product_is b c).0,
  ap (λ z. up a * z) (product_is b c).1,
  ap (λ z. down a * z) (product_is b c).1,
)

-- a factor of at least 1 may be dropped
pub times-cancel : (q a b : ℤ) → pos 1 ≤ℤ q → (q *ℤ a) ≤ℤ (q *ℤ b) → a ≤ℤ b
times-cancel q a b one h = by_lt_z b a (λ lt. clash lt) (λ le. le) where
  clash : b <ℤ a → a ≤ℤ b
  clash lt =
      let m = times-mono q (b +ℤ pos 1) a (omega (arith, ints, one)) (omega (arith, ints, lt)) in
      let e = times-add q b (pos 1) in
      absurd (omega (arith, ints, m, e, h, one))

-- q (a - b) = q a - q b
pub times-sub : (q a b : ℤ) → (q *ℤ (a -ℤ b)) ≡ ((q *ℤ a) -ℤ (q *ℤ b))
times-sub q a b = times-add q a (neg_ℤ b) ∙ ap (λ z. (q *ℤ a) +ℤ z) (times-neg q b)

-- q times f allows what f does
pub family-times : (k : ℕ) (q : ℤ) (f : SetFunction) → IsFamily k f → IsFamily k (times q f)
family-times k q f h = record {
  empty = times_allowed q _ h.empty;
  whole = times_allowed q _ h.whole;
  unions = λ s t ks kt ls lt. times_allowed q _
      (h.unions s t ks kt (times_allowed_back q _ ls) (times_allowed_back q _ lt));
  intersections = λ s t ks kt ls lt.
      times_allowed q _ (h.intersections s t ks kt (times_allowed_back q _ ls)
      (times_allowed_back q _ lt));
}

-- q times f is submodular, q not being negative
pub submodular-times : (k : ℕ) (q : ℤ) (f : SetFunction) → pos 0 ≤ℤ q → IsSubmodular k f
    → IsSubmodular k (times q f)
submodular-times k q f low h = record {
  at_empty = ap (option_map (λ a. q *ℤ a)) h.at_empty ∙ ap Some (*ℤ-zero q);
  submodular = λ s t a b c d ks kt es et eu ei.
      let (a', fs, ea) = times_some q (f s) a es in
      let (b', ft, eb) = times_some q (f t) b et in
      let (c', fu, ec) = times_some q (f (union s t)) c eu in
      let (d', fi, ed) = times_some q (f (intersection s t)) d ei in
      let less = times-mono q (c' +ℤ d') (a' +ℤ b') low
      (h.submodular s t a' b' c' d' ks kt fs ft fu fi) in
      rw (ea, eb, ec, ed, ← times-add q c' d', ← times-add q a' b') less;
}
