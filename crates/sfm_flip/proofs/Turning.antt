-- What a term gives at the negated base is what the term turned round gives at the base.
use Rattle.std.proofs.Common.{◌≡◌, ◌≢◌, ◌↔◌, ◌^◌, ◌*◌, ℕ, ◌<◌, Bool, Some, List, [], ◌∷◌, ◌++◌, length, take, drop, get_or, refl, ap, ℤ, pos, neg_ℤ, ◌*ℤ◌, ◌-ℤ◌, ◌≤ℤ◌, arith, ◌∙◌, sym}
use Rattle.std.specs.List.{All}
use Rattle.std.proofs.lemmas.Int.{ints}
use Rattle.std.proofs.lemmas.List.{get_or-map, ext_get_or}
use Rattle.sfm_spec.specs.Bounds.{IsAtMost, IsEntry, IsFactor}
use Rattle.sfm_spec.specs.Sets.{complement, whole_set}
use Rattle.sfm_spec.specs.Terms.{SetFunction, times, IsFamily, IsSubmodular, IsBase, HasRoom}
use Rattle.sfm_spec.proofs.Scaled.{family-times, submodular-times, times-mono, times-comm}
use Rattle.sfm_law.specs.Room.{IsRoom, IsWithinRoom, IsCapacityUpto}
use Rattle.sfm_law.specs.declared.room.Room.{Room}
use Rattle.sfm_flip.specs.Flipped.{flipped, negated}
use Rattle.sfm_flip.specs.FlipLaws.{length-negated, turned-from, turned-to, room-to, capacity-to, within-from, has-room-to, has-room-from}

pub negated-at : (x : List ℤ) (i : ℕ) (d : ℤ) → i < length x
    → get_or (negated x) i d ≡ neg_ℤ (get_or x i (pos 0))
negated-at x i d l = get_or-map neg_ℤ x i (pos 0) d l

pub negated-small : (m : ℕ) (x : List ℤ) → All (IsAtMost m) x → All (IsAtMost m) (negated x)
negated-small m x h = λ i d l.
    let lx = rw (length-negated x) at l in
    let s = h i (pos 0) lx in
    let g = negated-at x i d lx in
    record { low = omega (arith, ints, s.high, g); high = omega (arith, ints, s.low, g) }

module _ (k : ℕ) (f : SetFunction) (family : IsFamily k f) (law : IsSubmodular k f) (q : ℤ)
    (low : pos 1 ≤ℤ q) where
  family' : IsFamily k (times q f)
  family' = family-times k q f family

  law' : IsSubmodular k (times q f)
  law' = submodular-times k q f (omega (arith, ints, low)) law

  pub flip-base : (y : List ℤ) → length y ≡ k → IsBase (times q (flipped k f)) y
      → IsBase (times q f) (negated y)
  flip-base y sized base = turned-from k f family law q family' law' y sized base

  pub flip-base_to : (y : List ℤ) → length y ≡ k → IsBase (times q f) (negated y)
      → IsBase (times q (flipped k f)) y
  flip-base_to y sized base = turned-to k f family law q family' law' y sized base

  module _ (y : List ℤ) (sized : length y ≡ k) (u v : ℕ) (lu : u < length y) (lv : v < length y)
      (ne : u ≢ v) where
    pub flip-room : (room : Room) → IsRoom (times q f) (negated y) v u room
        → IsRoom (times q (flipped k f)) y u v room
    flip-room room is = room-to k f family law q family' law' y sized u v lu lv ne room is

    pub flip-capacity : (limit a : ℤ) → IsCapacityUpto (times q f) (negated y) v u limit a
        → IsCapacityUpto (times q (flipped k f)) y u v limit a
    flip-capacity limit a h = capacity-to k f family law q family' law' y sized u v lu lv ne limit a
        h

    pub flip-within : (a : ℤ) → IsWithinRoom (times q (flipped k f)) y u v a
        → IsWithinRoom (times q f) (negated y) v u a
    flip-within a h = within-from k f family law q family' law' y sized u v lu lv ne a h

    pub flip-has : HasRoom (times q f) (negated y) v u ↔ HasRoom (times q (flipped k f)) y u v
    flip-has = (
      has-room-to k f family law q family' law' y sized u v lu lv ne,
      has-room-from k f family law q family' law' y sized u v lu lv ne,
    )

-- what is lent whole comes back whole
pub written_back : (x b : List ℤ) → length x ≡ length b
    → take (length b) (x ++ drop (length x) b) ≡ x
written_back [] [] h = refl
written_back [] (c ∷ b) h = absurd (omega arith)
written_back (a ∷ x) [] h = absurd (omega arith)
written_back (a ∷ x) (c ∷ b) h = ap (λ r. a ∷ r) (written_back x b (omega arith))

-- the numbers whose signs have been turned one after another
pub turned_each : (x y : List ℤ) → length y ≡ length x
    → ((i : ℕ) → i < length x → get_or y i (pos 0) ≡ neg_ℤ (get_or x i (pos 0))) → y ≡ negated x
turned_each x y same each = ext_get_or (pos 0) y (negated x) (same ∙ sym (length-negated x))
    (λ i l. let lx : i < length x = omega (arith, l, same) in each i lx
    ∙ sym (negated-at x i (pos 0) lx))

-- the value of a part, by those of its rest and of the whole
pub flipped-some : (k : ℕ) (f : SetFunction) (s : List Bool) (c w : ℤ) → f (complement s) ≡ Some c
    → f (whole_set k) ≡ Some w → flipped k f s ≡ Some (c -ℤ w)
flipped-some k f s c w rest whole = rw (rest, whole) refl

-- the entries of a first base are small
pub starts-entries : (m q : ℤ) (x : List ℤ) → IsFactor q → m ≤ℤ pos (10 ^ 18)
    → All (λ a. (neg_ℤ ((pos 2 *ℤ q) *ℤ m) ≤ℤ a) × (a ≤ℤ ((pos 2 *ℤ q) *ℤ m))) x → All IsEntry x
starts-entries m q x factor le h = λ i d l.
    let s = h i d l in
    let one = times-mono (pos 2 *ℤ q) m (pos (10 ^ 18)) (omega (arith, ints, factor.low)) le in
    let comm = times-comm (pos 2 *ℤ q) (pos (10 ^ 18)) in
    let two = times-mono (pos (10 ^ 18)) (pos 2 *ℤ q) (pos (2 * 10 ^ 6)) (omega (arith, ints))
    (omega (arith, ints, factor.high)) in
    record {
      low = omega (arith, ints, s.0, one, comm, two);
      high = omega (arith, ints, s.1, one, comm, two);
    }
