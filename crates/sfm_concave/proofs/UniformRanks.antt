-- Parts of at most so many places are the independent sets of a matroid: its rank, and the same
-- among kept places. Textbook: Schrijver, Combinatorial Optimization, section 39 (uniform
-- matroids).
use Rattle.std.proofs.Common.{◌≡◌, ◌↔◌, ℕ, zero, suc, ◌+◌, ◌<◌, ◌≤◌, Bool, true, false, List, [], ◌∷◌, length, get_or, ℤ, pos, ◌*ℤ◌, ◌≤ℤ◌, nat_abs, Some, refl, sym, ap, ◌∙◌, arith, if◌then◌else◌}
use Rattle.std.specs.Int.{int_min}
use Rattle.std.proofs.lemmas.Int.{ints, clamps}
use Rattle.sfm_spec.specs.Sets.{Has, IsWithin, size}
use Rattle.sfm_spec.specs.Kinds.{IsRankFunction, uniform_value}
use Rattle.sfm_spec.specs.Laws.{ones}
use Rattle.sfm_spec.proofs.Where.{size-cons}
use Rattle.sfm_spec.proofs.Sizes.{size-empty, size_within}
use Rattle.sfm_rank.specs.Matroids.{IsMatroid, AreRanks}
use Rattle.sfm_rank.proofs.Members.{has_place, size-in}
use Rattle.sfm_layers.specs.Weights.{IsWeightedRank}
use Rattle.sfm_layers.specs.Kept.{spread}
use Rattle.sfm_layers.proofs.Ones.{weighted-rank}
use Rattle.sfm_layers.proofs.Kept.{size-spread}

-- at most so many places
abbrev pub IsWithinCap : ℤ → List Bool → Type 0
IsWithinCap cap t = pos (size t) ≤ℤ cap

-- how many places of a part are independent together
abbrev pub uniform_rank : ℤ → List Bool → ℕ
uniform_rank cap s = nat_abs (int_min (pos (size s)) cap)

-- of two sets the larger has a place that the smaller lacks
lacked : (s t : List Bool) → length s ≡ length t → size s < size t → (e : ℕ) × Has t e
    × (get_or s e false ≡ false)
lacked [] [] h lt = absurd (omega (arith, lt))
lacked [] (b ∷ t) h lt = absurd (omega arith)
lacked (a ∷ s) [] h lt = absurd (omega arith)
lacked (a ∷ s) (b ∷ t) h lt = at a b (size-cons a s) (size-cons b t) lt
    (lacked s t (omega arith)) where
      at : (a b : Bool) → size (a ∷ s) ≡ (if a then 1 else 0) + size s
          → size (b ∷ t) ≡ (if b then 1 else 0) + size t → size (a ∷ s) < size (b ∷ t)
          → (size s < size t → (e : ℕ) × Has t e × (get_or s e false ≡ false)) → (e : ℕ)
          × Has (b ∷ t) e
          × (get_or (a ∷ s) e false ≡ false)
      at false true sa sb l rest = (0, refl, refl)
      at true true sa sb l rest = let (e, has, out) = rest
          (omega (arith, sa, sb, l)) in (suc e, has, out)
      at true false sa sb l rest = let (e, has, out) = rest
          (omega (arith, sa, sb, l)) in (suc e, has, out)
      at false false sa sb l rest = let (e, has, out) = rest
          (omega (arith, sa, sb, l)) in (suc e, has, out)

within-longer : (a b : Bool) (t s : List Bool) → (a ≡ true → b ≡ true) → IsWithin t s
    → IsWithin (a ∷ t) (b ∷ s)
within-longer a b t s first within zero h = first h
within-longer a b t s first within (suc e) h = within e h

-- a set has parts of each smaller size
part-of-size : (s : List Bool) (n : ℕ) → n ≤ size s → (t : List Bool) × (length t ≡ length s)
    × IsWithin t s × (size t ≡ n)
part-of-size [] n le = ([], refl, (λ e h. h), (let z : n ≡ 0 = omega arith in sym z))
part-of-size (false ∷ s) n le =
    let c = size-cons false s in
    let (t, lt, within, is) = part-of-size s n (omega (arith, c, le)) in
    let d = size-cons false t in (
      false ∷ t,
      omega (arith, lt),
      within-longer false false t s (λ h. h) within,
      omega (arith, d, is),
    )
part-of-size (true ∷ s) zero le = none (part-of-size s zero (omega arith)) where
  none : (t : List Bool) × (length t ≡ length s) × IsWithin t s × (size t ≡ zero) → (t : List Bool)
      × (length t ≡ suc (length s)) × IsWithin t (true ∷ s) × (size t ≡ zero)
  none (t, lt, within, is) = let d = size-cons false
      t in (
        false ∷ t,
        omega (arith, lt),
        within-longer false true t s (λ h. refl) within,
        omega (arith, d, is),
      )
part-of-size (true ∷ s) (suc n) le =
    let c = size-cons true s in
    let (t, lt, within, is) = part-of-size s n (omega (arith, c, le)) in
    let d = size-cons true t in (
      true ∷ t,
      omega (arith, lt),
      within-longer true true t s (λ h. refl) within,
      omega (arith, d, is),
    )

pub uniform-matroid : (k : ℕ) (cap : ℤ) → pos 0 ≤ℤ cap → IsMatroid k (IsWithinCap cap)
uniform-matroid k cap low = record {
  empty = (let z = size-empty k in omega (arith, ints, z, low));
  parts = λ s t ks kt within free. let less = size_within s t (ks ∙ sym kt)
      within in omega (arith, ints, less, free);
  grows = λ s t ks kt free more less.
      let (e, has, out) = lacked s t (ks ∙ sym kt) less in
      let place = has_place t e has in
      let one = size-in s e (omega (arith, place, ks, kt)) out in
      (e, has, out, omega (arith, ints, one, less, more));
}

rank-is : (cap : ℤ) (s : List Bool) → pos 0 ≤ℤ cap
    → pos (uniform_rank cap s) ≡ int_min (pos (size s)) cap
rank-is cap s low = omega (arith, ints, clamps, low)

pub uniform-ranks : (k : ℕ) (cap : ℤ) → pos 0 ≤ℤ cap
    → AreRanks k (IsWithinCap cap) (uniform_rank cap)
uniform-ranks k cap low s ks =
    let is = rank-is cap s low in
    let few : uniform_rank cap s ≤ size s = omega (arith, ints, clamps, is) in
    let (t, lt, within, many) = part-of-size s (uniform_rank cap s) few in
    record {
      reached = (t, lt, within, omega (arith, ints, clamps, is, many), many);
      greatest = λ u lu wu free. let less = size_within u s lu
          wu in omega (arith, ints, clamps, is, less, free);
    }

pub uniform-function : (k : ℕ) (w cap : ℤ) → pos 0 ≤ℤ cap
    → IsRankFunction k w (IsWithinCap cap) (uniform_value w cap)
uniform-function k w cap low s ks = (
  uniform_rank cap s,
  uniform-ranks k cap low s ks,
  ap (λ r. Some (w *ℤ r)) (sym (rank-is cap s low)),
)

pub uniform-weighted : (k : ℕ) (w cap : ℤ) → pos 0 ≤ℤ cap
    → IsWeightedRank w (IsWithinCap cap) (ones k) (uniform_value w cap)
uniform-weighted k w cap low = weighted-rank k w (IsWithinCap cap) (uniform_value w cap)
    (uniform-function k w cap low)

-- a part of the kept places is as large as what it is of all
pub uniform-spread : (cap : ℤ) (keep u : List Bool) → length u ≡ size keep → IsWithinCap cap u
    ↔ IsWithinCap cap (spread keep u)
uniform-spread cap keep u h = let same = size-spread keep u
    h in (λ free. omega (arith, ints, same, free), λ free. omega (arith, ints, same, free))
