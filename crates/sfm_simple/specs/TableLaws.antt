-- A number for each part: submodular exactly where no two places gain more together than each
-- alone.
use Rattle.std.proofs.Common.{◌≡◌, ℕ, suc, ◌+◌, ◌-◌, ◌<◌, ◌≤◌, ◌^◌, Bool, true, false, List, length, map, get_or, set, ℤ, pos, neg_ℤ, ◌+ℤ◌, ◌-ℤ◌, ◌*ℤ◌, ◌≤ℤ◌, ◌<ℤ◌, Some, refl, sym, ap, ◌∙◌, arith}
use Rattle.std.specs.List.{All, range_with_len}
use Rattle.std.proofs.lemmas.Int.{ints, by_lt_z}
use Rattle.std.proofs.lemmas.List.FromFn.{length-map-range_with_len, get_or-map-range_with_len}
use Rattle.sfm_spec.specs.Sets.{Has, sum_over}
use Rattle.sfm_spec.specs.Terms.{times, first_places, IsBase, IsFamily, IsSubmodular, IsGreedy}
use Rattle.sfm_spec.specs.Kinds.{binary, table_value}
use Rattle.sfm_law.proofs.LocalLaw.{local_law}
use Rattle.sfm_law.proofs.Entries.{listed-small}
pub use Rattle.sfm_law.specs.Values.{greatest}
use Rattle.sfm_law.proofs.Greedy.{front, first_places-front, first_places-more, greedy_base, greedy_small}
use Rattle.sfm_simple.specs.Subsets.{members, members-binary, binary-none, binary-front, binary-lt}
use Rattle.sfm_simple.specs.Breaches.{listed_at, BreaksLaw}
use Rattle.sfm_law.proofs.Multiples.{map-times, times-once}

-- what the place j adds to those before it, q times
abbrev pub gain_of : ℤ → List ℤ → ℕ → ℤ
gain_of q values j = q *ℤ (get_or values (2 ^ (j + 1) - 1) (pos 0) -ℤ get_or values (2 ^ j - 1)
    (pos 0))

-- the start: what each place adds to those before it
abbrev pub table_start : ℤ → List ℤ → ℕ → List ℤ
table_start q values k = map (λ j. gain_of q values j) (range_with_len 0 k)

-- what the set with the number n leaves to x of its value, q times
abbrev pub slack_of : ℤ → List ℤ → List ℤ → ℕ → ℤ
slack_of q values x n = (q *ℤ get_or values n (pos 0)) -ℤ sum_over (members (length x) n) x

-- the set of k places with the number n has u and not v
pub record Separates (k n u v : ℕ) : Type 0 where
  pub first_in : Has (members k n) u
  pub second_out : get_or (members k n) v false ≡ false

-- a is the least that a set with u and not v leaves
pub record IsLeastSlack (q : ℤ) (values x : List ℤ) (u v : ℕ) (a : ℤ) : Type 0 where
  pub least : (n : ℕ) → n < length values → Separates (length x) n u v → a ≤ℤ slack_of q values x n
  pub reached : (n : ℕ) × (n < length values) × Separates (length x) n u v
      × (a ≡ slack_of q values x n)

-- ---- the law

pub table-family : {k : ℕ} (values : List ℤ) → IsFamily k (table_value values)
table-family values = record {
  empty = refl;
  whole = refl;
  unions = λ s t h g a b. refl;
  intersections = λ s t h g a b. refl;
}

pub table-submodular : (k : ℕ) (values : List ℤ) → get_or values 0 (pos 0) ≡ pos 0
    → ((n a b : ℕ) → BreaksLaw values k n a b → ⊥) → IsSubmodular k (table_value values)
table-submodular k values none holds =
    local_law k (listed_at values) (ap (λ n. get_or values n (pos 0)) (binary-none k) ∙ none)
    (record { pairs = pairs }) where
      pairs : (s : List Bool) (a b : ℕ) → length s ≡ k → a < b → b < k → get_or s a false ≡ false
          → get_or s b false ≡ false
          → (listed_at values (set (set s a true) b true) +ℤ listed_at values s)
          ≤ℤ (listed_at values (set s a true) +ℤ listed_at values (set s b true))
      pairs s a b ks lt in_range out out' =
          by_lt_z (listed_at values (set s a true) +ℤ listed_at values (set s b true))
          (listed_at values (set (set s a true) b true) +ℤ listed_at values s)
          (λ more. absurd (holds (binary s) a b (breaks more)))
          (λ fine. fine) where
            is : members k (binary s) ≡ s
            is = rw (← ks) (members-binary s)

            breaks : (listed_at values (set s a true) +ℤ listed_at values (set s b true))
                <ℤ (listed_at values (set (set s a true) b true) +ℤ listed_at values s)
                → BreaksLaw values k (binary s) a b
            breaks more = record {
              number = rw (← ks) (binary-lt s);
              ordered = lt;
              in_range = in_range;
              first_out = rw is out;
              second_out = rw is out';
              more = rw is more;
            }

-- ---- the size

pub table-bounded : (values : List ℤ) (s : List Bool) (a : ℤ) → table_value values s ≡ Some a
    → (neg_ℤ (greatest values) ≤ℤ a) × (a ≤ℤ greatest values)
table-bounded values s a e = let f : listed_at values s ≡ a = cc in rw (← f)
    (listed-small values (binary s))

-- ---- the start

pub table-greedy : (k : ℕ) (q : ℤ) (values : List ℤ)
    → IsGreedy q (table_value values) k (table_start q values k)
table-greedy k q values = record {
  places = length-map-range_with_len (λ j. gain_of q values j) 0 k;
  gains = gains;
} where
  number : (j : ℕ) → j ≤ k → binary (front k j) ≡ 2 ^ j - 1
  number j h = let b = binary-front k j h in omega (arith, b)

  gains : (j : ℕ) (a b : ℤ) → j < k → table_value values (first_places k (j + 1)) ≡ Some a
      → table_value values (first_places k j) ≡ Some b
      → get_or (table_start q values k) j (pos 0) ≡ (q *ℤ (a -ℤ b))
  gains j a b lt ea eb =
      let fa : listed_at values (first_places k (j + 1)) ≡ a = cc in
      let fb : listed_at values (first_places k j) ≡ b = cc in
      let one : j + 1 ≡ suc j = omega arith in
      let na : binary (first_places k (j + 1)) ≡ 2 ^ (j + 1) - 1 = ap binary
      (first_places-more k j lt) ∙ (number (suc j) (omega arith)
      ∙ ap (λ i. 2 ^ i - 1) (sym one)) in
      let nb : binary (first_places k j) ≡ 2 ^ j - 1 = ap binary
      (first_places-front k j (omega arith)) ∙ number j (omega arith) in
      let ga = rw na at fa in
      let gb = rw nb at fb in
      rw (← ga, ← gb) (get_or-map-range_with_len (λ i. gain_of q values i) 0 k j j (pos 0) lt
      (omega arith))

pub table-starts : (k : ℕ) (q : ℤ) (values : List ℤ) → pos 1 ≤ℤ q
    → IsSubmodular k (table_value values) → (length (table_start q values k) ≡ k)
    × IsBase (times q (table_value values)) (table_start q values k)
table-starts k q values low law = (
  length-map-range_with_len (λ j. gain_of q values j) 0 k,
  greedy_base k q (listed_at values) (table_start q values k) (omega (arith, ints)) law
      (table-greedy k q values),
)

pub table-starts_small : (k : ℕ) (q : ℤ) (values : List ℤ) → pos 1 ≤ℤ q
    → All (λ a. (neg_ℤ ((pos 2 *ℤ q) *ℤ greatest values) ≤ℤ a)
    × (a ≤ℤ ((pos 2 *ℤ q) *ℤ greatest values))) (table_start q values k)
table-starts_small k q values low =
    greedy_small k q (greatest values) (listed_at values) (table_start q values k)
    (omega (arith, ints)) (λ s ks. listed-small values (binary s)) (table-greedy k q values)

pub table-starts_times : (k : ℕ) (q : ℤ) (values : List ℤ)
    → table_start q values k ≡ map (λ a. q *ℤ a) (table_start (pos 1) values k)
table-starts_times k q values =
    map-times q (λ j. gain_of q values j) (λ j. gain_of (pos 1) values j) (λ j. times-once q _)
    (range_with_len 0 k)
