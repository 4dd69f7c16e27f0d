-- How large what is told can be: the sums of bases with small entries, and what a sum of terms is
-- at a set.
use Rattle.std.proofs.Common.{◌≡◌, ℕ, ◌+◌, ◌*◌, ◌<◌, ◌≤◌, ◌^◌, Bool, true, false, List, [], ◌∷◌, length, map, get_or, sum, nat_eq, ℤ, pos, neg_ℤ, ◌≤ℤ◌, Option, Some, None, unwrap_or, if◌then◌else◌, refl, ap, arith}
use Rattle.std.specs.Int.{int_min}
use Rattle.std.specs.List.{All}
use Rattle.std.proofs.Math.Nat.{mul-le-mul_left}
use Rattle.std.proofs.lemmas.Int.{ints, clamps}
use Rattle.std.proofs.lemmas.List.{length-map}
use Rattle.std.proofs.lemmas.List.Elements.{All-head, All-tail, All-map, All-weaker, All-from_get_or}
use Rattle.std.proofs.lemmas.List.Sums.{sum_by-cons}
use Rattle.sfm_spec.specs.Sets.{complement, part, sum_over, whole_set}
use Rattle.sfm_spec.specs.Bounds.{IsAtMost, IsEntry, total_of}
use Rattle.sfm_spec.specs.Families.{sum_at, entry_at, base_sum_at}
use Rattle.sfm_law.proofs.Totals.{total_of-whole}
use Rattle.sfm_kind.specs.Kinds.{kind_places, kind_value, kind_size, kind-bounded}
use Rattle.sfm_kind.specs.Instance.{support_of}
use Rattle.sfm_kind.specs.Limits.{total_size_of}
use Rattle.sfm_kind.specs.declared.kind.Kind.{Kind}
use Rattle.sfm_kind.proofs.Bounds.{kind_size-low}
use Rattle.sfm_flip.specs.Flipped.{negated}
use Rattle.sfm_meet.specs.Common.{IsLeastSplit}
use Rattle.sfm_meet.specs.Told.{side_terms}

-- ---- rows

entry-wider : (a : ℤ) → IsAtMost (10 ^ 25) a → IsEntry a
entry-wider a h = record { low = omega (arith, ints, h.low); high = omega (arith, ints, h.high) }

-- entries within 10^25 are within 10^30
pub rows-wider : (rows : List (List ℤ)) → All (λ x. All (IsAtMost (10 ^ 25)) x) rows
    → All (λ x. All IsEntry x) rows
rows-wider rows h = All-weaker (λ x. All (IsAtMost (10 ^ 25)) x) (λ x. All IsEntry x)
    (λ x. All-weaker (IsAtMost (10 ^ 25)) IsEntry entry-wider x) rows h

turned-small : (m : ℕ) (a : ℤ) → IsAtMost m a → IsAtMost m (neg_ℤ a)
turned-small m a h = record { low = omega (arith, ints, h.high); high = omega (arith, ints, h.low) }

-- and so are the negated ones
pub negated-small : (m : ℕ) (rows : List (List ℤ)) → All (λ x. All (IsAtMost m) x) rows
    → All (λ x. All (IsAtMost m) x) (map negated rows)
negated-small m rows h = All-map (λ x. All (IsAtMost m) x) negated rows
    (All-weaker (λ x. All (IsAtMost m) x) (λ x. All (IsAtMost m) (negated x))
    (λ x hx. All-map (IsAtMost m) neg_ℤ x
    (All-weaker (IsAtMost m) (λ a. IsAtMost m (neg_ℤ a)) (turned-small m) x hx)) rows h)

-- ---- sums of bases

one-small : (m : ℕ) (b : Bool) (a : ℤ) → IsAtMost m a → IsAtMost m (if b then a else pos 0)
one-small m true a h = h
one-small m false a h = record { low = omega (arith, ints); high = omega (arith, ints) }

entry_at-small : (m : ℕ) (places : List ℕ) (x : List ℤ) (e : ℕ) → All (IsAtMost m) x
    → IsAtMost (m * length places) (entry_at places x e)
entry_at-small m [] x e h = record { low = omega (arith, ints); high = omega (arith, ints) }
entry_at-small m (p ∷ places) [] e h =
    record { low = omega (arith, ints); high = omega (arith, ints) }
entry_at-small m (p ∷ places) (a ∷ x) e h =
    let o = one-small m (nat_eq p e) a (All-head (IsAtMost m) a x h) in
    let r = entry_at-small m places x e (All-tail (IsAtMost m) a x h) in
    record { low = omega (arith, ints, o.low, r.low); high = omega (arith, ints, o.high, r.high) }

base_sum-small : (m : ℕ) (terms : List Kind) (rows : List (List ℤ)) (e : ℕ)
    → All (λ x. All (IsAtMost m) x) rows
    → IsAtMost (m * support_of terms) (base_sum_at (side_terms terms) rows e)
base_sum-small m [] rows e h = record { low = omega (arith, ints); high = omega (arith, ints) }
base_sum-small m (kind ∷ terms) [] e h =
    record { low = omega (arith, ints); high = omega (arith, ints) }
base_sum-small m (kind ∷ terms) (x ∷ rows) e h =
    let o = entry_at-small m (kind_places kind) x e (All-head (λ x. All (IsAtMost m) x) x rows h) in
    let r = base_sum-small m terms rows e (All-tail (λ x. All (IsAtMost m) x) x rows h) in
    let total : support_of (kind ∷ terms) ≡ length (kind_places kind) + support_of terms
    = sum_by-cons (λ n. n) (length (kind_places kind)) (map length (map kind_places terms)) in
    let all : m * support_of (kind ∷ terms) ≡ m
    * (length (kind_places kind) + support_of terms) = ap (λ k. m * k) total in
    record {
      low = omega (arith, ints, o.low, r.low, all);
      high = omega (arith, ints, o.high, r.high, all);
    }

-- what bases with entries within 10^25 add up to is within 10^30 at each place
sum-entry : (terms : List Kind) (rows : List (List ℤ)) (e : ℕ) → support_of terms ≤ 16384
    → All (λ x. All (IsAtMost (10 ^ 25)) x) rows → IsEntry (base_sum_at (side_terms terms) rows e)
sum-entry terms rows e few h =
    let s = base_sum-small (10 ^ 25) terms rows e h in
    let all = mul-le-mul_left (10 ^ 25) few in
    record { low = omega (arith, ints, s.low, all); high = omega (arith, ints, s.high, all) }

less-entry : (a b : ℤ) → IsEntry a → IsEntry b → IsEntry (int_min a b)
less-entry a b ha hb = record {
  low = omega (arith, ints, clamps, ha.low, hb.low);
  high = omega (arith, ints, clamps, ha.high, hb.high);
}

-- and so are the smaller ones of two such sums
pub smaller-entries : (n : ℕ) (left right : List Kind) (x y : List (List ℤ)) (c : List ℤ)
    → support_of left ≤ 16384 → support_of right ≤ 16384
    → All (λ r. All (IsAtMost (10 ^ 25)) r) x → All (λ r. All (IsAtMost (10 ^ 25)) r) y
    → length c ≡ n
    → ((e : ℕ) → e < n → get_or c e (pos 0) ≡ int_min (base_sum_at (side_terms left) x e)
    (base_sum_at (side_terms right) y e))
    → All IsEntry c
smaller-entries n left right x y c fl fr hx hy sized smaller =
    All-from_get_or IsEntry c (pos 0) (λ e l.
    let i = smaller e (rw sized at l) in
    rw i (less-entry (base_sum_at (side_terms left) x e) (base_sum_at (side_terms right) y e)
    (sum-entry left x e fl hx) (sum-entry right y e fr hy)))

-- ---- values of sums

value-in : (m : ℤ) (o : Option ℤ) → pos 0 ≤ℤ m → ((a : ℤ) → o ≡ Some a → (neg_ℤ m ≤ℤ a) × (a ≤ℤ m))
    → (neg_ℤ m ≤ℤ unwrap_or o (pos 0)) × (unwrap_or o (pos 0) ≤ℤ m)
value-in m None low h = (omega (arith, ints, low), low)
value-in m (Some a) low h = h a refl

-- what a sum is at a set is within the sizes of all terms
sum_at-in : (terms : List Kind) (s : List Bool)
    → (neg_ℤ (total_size_of terms) ≤ℤ sum_at (side_terms terms) s)
    × (sum_at (side_terms terms) s ≤ℤ total_size_of terms)
sum_at-in [] s = (omega (arith, ints), omega (arith, ints))
sum_at-in (kind ∷ terms) s =
    let r = sum_at-in terms s in
    let places = kind_places kind in
    let one = value-in (kind_size kind) (kind_value kind (part places s)) (kind_size-low kind)
    (λ a e. kind-bounded kind (part places s) a (length-map places (λ e. get_or s e false)) e) in
    (omega (arith, ints, r.0, one.0), omega (arith, ints, r.1, one.1))

-- so the value of a split is within 10^30
pub split-entry : (left right : List Kind) (n : ℕ) (v : ℤ) (t : List Bool)
    → total_size_of left ≤ℤ pos (10 ^ 18) → total_size_of right ≤ℤ pos (10 ^ 18)
    → IsLeastSplit (side_terms left) (side_terms right) n v t → IsEntry v
split-entry left right n v t hl hr split =
    let a = sum_at-in left t in
    let b = sum_at-in right (complement t) in
    let is = split.value in
    record {
      low = omega (arith, ints, a.0, b.0, is, hl, hr);
      high = omega (arith, ints, a.1, b.1, is, hl, hr);
    }

-- the sum of all entries, one after another and over the whole set
pub total-whole : (n : ℕ) (c : List ℤ) → length c ≡ n → total_of c ≡ sum_over (whole_set n) c
total-whole n c sized = rw sized at (total_of-whole c)
