-- The row of each term as a base of it within the bounds.
use Rattle.std.proofs.Common.{◌≡◌, ℕ, ◌^◌, ◌<◌, Bool, List, [], length, map, get_or, ℤ, pos, neg_ℤ, ◌≤ℤ◌, Some, ap, ◌∙◌, arith}
use Rattle.std.specs.List.{All}
use Rattle.std.proofs.lemmas.List.{length-replicate}
use Rattle.std.proofs.lemmas.List.Elements.{All-get_or, All-map}
use Rattle.sfm_spec.specs.Sets.{IsPlaced, empty_set}
use Rattle.sfm_spec.specs.Bounds.{AreBounded, IsEntry, IsFactor, total_of}
use Rattle.sfm_spec.specs.Terms.{SetFunction, times, IsBase, IsSubmodular, exchanged}
use Rattle.sfm_spec.specs.Families.{Meaning, meanings, AreBases}
use Rattle.sfm_spec.specs.Walks.{base_at}
use Rattle.sfm_spec.proofs.Sums.{length-exchanged}
use Rattle.sfm_spec.proofs.Walks.{bases-at}
use Rattle.sfm_law.proofs.Lists.{all-at, below-total, meanings-at, length-meanings, length-bases}
use Rattle.sfm_reach.specs.Based.{AreBased, IsPlacedBase}

-- bounds on values are not negative
pub size_low : {X : Type 0} (places : X → List ℕ) (value : X → SetFunction) (size : X → ℤ)
    → ((x : X) → IsSubmodular (length (places x)) (value x))
    → ((x : X) (s : List Bool) (a : ℤ) → length s ≡ length (places x) → value x s ≡ Some a
    → (neg_ℤ (size x) ≤ℤ a) × (a ≤ℤ size x)) → (x : X) → pos 0 ≤ℤ size x
size_low places value size law range x =
    (range x (empty_set (length (places x))) (pos 0) (length-replicate (length (places x)) _)
    (law x).at_empty).1

-- where the sum of all bounds is small each is
pub sizes_all : {X : Type 0} (size : X → ℤ) (terms : List X) → ((x : X) → pos 0 ≤ℤ size x)
    → total_of (map size terms) ≤ℤ pos (10 ^ 18) → All (λ a. a ≤ℤ pos (10 ^ 18)) (map size terms)
sizes_all size terms sound small =
    below-total (map size terms) (pos (10 ^ 18))
    (All-map (λ a. pos 0 ≤ℤ a) size terms (λ k d l. sound (get_or terms k d))) small

module _ {X : Type 0} (places : X → List ℕ) (value : X → SetFunction) (size : X → ℤ)
    (sound : (x : X) → pos 0 ≤ℤ size x) (terms : List X) (n : ℕ) (q : ℤ) (rows : List (List ℤ))
    (bounded : AreBounded n (map places terms) (map size terms))
    (factor : IsFactor q) (bases : AreBases q (meanings places value terms) rows) where
  -- the row of a term is a base of it within the bounds
  pub is_based : (i : ℕ) → i < length terms → (term : X) → term ≡ get_or terms i term
      → All IsEntry (base_at rows i) → IsPlacedBase places value size term q (base_at rows i)
  is_based i l term is small =
      let placed = all-at (IsPlaced n) places terms i term l is bounded.placed in
      let means = meanings-at places value terms i term l is in
      let base = bases-at q (meanings places value terms) rows i bases
      (rw (length-meanings places value terms) l) in
      record {
        placed = record {
          below = λ j lj. let b = placed.below j
              lj in omega (arith, b, bounded.few);
          distinct = placed.distinct;
        };
        based = record {
          factor = factor;
          entries = base.0 ∙ ap (λ (m : Meaning). length m.places) means;
          bounded = all-at (λ a. a ≤ℤ pos (10 ^ 18)) size terms i term l is
              (sizes_all size terms sound bounded.small);
          small = small;
          base = rw means at base.1;
        };
      }

-- and so all are
pub are_based : {X : Type 0} {places : X → List ℕ} {value : X → SetFunction} {size : X → ℤ}
    {terms : List X} {n : ℕ} {q : ℤ} {rows : List (List ℤ)}
    → ((x : X) → IsSubmodular (length (places x)) (value x))
    → ((x : X) (s : List Bool) (a : ℤ) → length s ≡ length (places x) → value x s ≡ Some a
    → (neg_ℤ (size x) ≤ℤ a) × (a ≤ℤ size x)) → AreBounded n (map places terms) (map size terms)
    → IsFactor q
    → AreBases q (meanings places value terms) rows → All (λ x. All IsEntry x) rows
    → AreBased places value size terms q rows
are_based {places} {value} {size} {terms} {n} {q} {rows} law range bounded factor bases small =
    record {
      count = count;
      each = λ i l term is. is_based places value size (size_low places value size law range) terms
          n q
          rows bounded factor bases i l term is
          (All-get_or (λ x. All IsEntry x) rows i [] (rw count l) small);
    } where
      count : length rows ≡ length terms
      count = length-bases q (meanings places value terms) rows bases
          ∙ length-meanings places value terms

-- and still after an exchange that keeps them within the bounds
pub based_after : {X : Type 0} (places : X → List ℕ) (value : X → SetFunction) (size : X → ℤ)
    (term : X) (q : ℤ) (x y : List ℤ) (u v : ℕ) (a : ℤ) → IsPlacedBase places value size term q x
    → y ≡ exchanged x u v a → All IsEntry (exchanged x u v a) → IsBase (times q (value term)) y
    → IsPlacedBase places value size term q y
based_after places value size term q x y u v a b is small base = record {
  placed = b.placed;
  based = record {
    factor = b.based.factor;
    entries = ap length is
        ∙ (length-exchanged x u v a ∙ b.based.entries);
    bounded = b.based.bounded;
    small = rw is small;
    base = base;
  };
}
