-- What is kept beside a base: the members of groups as sets, what each group lacks, and the places
-- that have something.
use Rattle.std.proofs.Common.{◌≡◌, ◌≢◌, ◌↔◌, ℕ, ◌+◌, ◌<◌, ◌≤◌, ◌^◌, Bool, true, false, List, [], ◌∷◌, length, get_or, set, ℤ, Option, None, Some, IfSome, pos, ◌+ℤ◌, ◌-ℤ◌, ◌*ℤ◌, ◌≤ℤ◌, sym, ◌∙◌, arith, ⊎_elim, length-set, get_or-set_same, get_or-set_other}
use Rattle.std.specs.List.{All, Contains}
use Rattle.std.specs.Int.{int_min}
use Rattle.std.proofs.lemmas.Bool.{cases_lt}
use Rattle.std.proofs.lemmas.Int.{ints, clamps}
use Rattle.std.proofs.lemmas.List.{get_or_default, length-replicate}
use Rattle.std.proofs.lemmas.List.Elements.{All-head, All-tail, All-get_or}
use Rattle.sfm_spec.specs.Bounds.{IsAtMost}
use Rattle.sfm_spec.specs.Sets.{Has, empty_set, union}
use Rattle.sfm_spec.specs.Terms.{times, IsBase, exchanged}
use Rattle.sfm_spec.specs.Kinds.{Group}
use Rattle.sfm_spec.proofs.Lattice.{none_in_empty}
use Rattle.sfm_spec.proofs.Scaled.{times-mono}
use Rattle.sfm_spec.proofs.Sets.{same_sets, in_union, union_right}
use Rattle.sfm_spec.proofs.Sums.{length-union, length-exchanged, sum_over-exchanged}
use Rattle.sfm_spec.proofs.MoveOrder.{exchanged-first, exchanged-second, exchanged-other}
use Rattle.sfm_law.proofs.Monotone.{AreCounts}
use Rattle.sfm_law.proofs.Places.{by_places}
use Rattle.sfm_laminar.specs.Groups.{AreGroups}
use Rattle.sfm_laminar.specs.Crossing.{no_group, group_at}
use Rattle.sfm_laminar.specs.Masks.{mask, length-mask, sum_listed}
use Rattle.sfm_laminar.specs.Ranks.{contains-mask, mask-contains}
use Rattle.sfm_laminar.specs.Rooms.{slack_of}
use Rattle.sfm_laminar.specs.LaminarLaws.{laminar_value}
use Rattle.sfm_laminar.specs.Slacks.{AreSlacks, IsSupport, share_of}
use Rattle.sfm_laminar.proofs.Bases.{sum-group, laminar_base_back}
use Rattle.sfm_laminar.proofs.Fits.{bound_small}
use Rattle.sfm_laminar.proofs.Listed.{few_members}

-- ---- the members of groups as sets

-- a set of those that are listed
pub mask_from : (k : ℕ) (es : List ℕ) (s : List Bool) → length s ≡ k → All (λ e. e < k) es
    → ((e : ℕ) → e < k → Has s e ↔ Contains es e) → s ≡ mask k es
mask_from k es s ks below exact =
    let g : Group = record { cap = pos 0; members = es } in
    same_sets s (mask k es) (ks ∙ sym (length-mask k es))
    (λ e lt h. contains-mask k g e below ((exact e (omega (arith, lt, ks))).0 h))
    (λ e lt h. (exact e (omega (arith, lt, ks))).1 (mask-contains k g e h))

-- ---- what each group lacks

sum-counts : (es : List ℕ) (x : List ℤ) → AreCounts x → All (λ e. e < length x) es
    → pos 0 ≤ℤ sum_listed es x
sum-counts [] x counts below = omega (arith, ints)
sum-counts (e ∷ es) x counts below =
    let a = counts e (All-head (λ e. e < length x) e es below) in
    let r = sum-counts es x counts (All-tail (λ e. e < length x) e es below) in
    omega (arith, ints, a, r)

module _ (k : ℕ) (q w : ℤ) (groups : List Group) (hq : pos 1 ≤ℤ q) (hw : pos 0 ≤ℤ w)
    (ok : AreGroups k groups) (x : List ℤ) (kx : length x ≡ k) where
  -- a base leaves no group more than its bound, and none less than nothing
  pub slack_small : k ≤ 256 → (q *ℤ w) ≤ℤ pos (10 ^ 24)
      → IsBase (times q (laminar_value k w groups)) x → (i : ℕ) → i < length groups
      → IsAtMost (10 ^ 27) (slack_of q w x (group_at groups i))
  slack_small few high base i lt =
      let g = group_at groups i in
      let h = laminar_base_back k q w groups hq hw ok x kx base in
      let b = h.bounded i lt in
      let s = sum-counts g.members x h.counts (rw kx (ok.below i no_group lt)) in
      let cap = (ok.each i no_group lt).low in
      let low : pos 0 ≤ℤ (q *ℤ w) = let up = times-mono q (pos 0) w (omega (arith, ints))
      hw in omega (arith, ints, up) in
      let n = few_members k g (ok.each i no_group lt) (ok.below i no_group lt) in
      let rl : pos 0 ≤ℤ int_min g.cap (pos (length g.members)) = omega (arith, ints, clamps, cap) in
      let rh : int_min g.cap (pos (length g.members)) ≤ℤ pos
      256 = omega (arith, ints, clamps, n, few) in
      let small = bound_small (q *ℤ w) (int_min g.cap (pos (length g.members))) low high rl rh in
      record { low = omega (arith, ints, b); high = omega (arith, ints, s, small.high) }

  pub slacks_small : k ≤ 256 → (q *ℤ w) ≤ℤ pos (10 ^ 24)
      → IsBase (times q (laminar_value k w groups)) x → (slacks : List ℤ)
      → AreSlacks q w groups x slacks → All (IsAtMost (10 ^ 27)) slacks
  slacks_small few high base slacks are i d lt =
      let p = are.places in
      let li : i < length groups = omega (arith, p, lt) in
      rw (get_or_default slacks i d (pos 0) lt, are.each i li) (slack_small few high base i li)

  module _ (u v : ℕ) (a : ℤ) (xu : u < length x) (xv : v < length x) (ne : u ≢ v) where
    pub slack-exchanged : (i : ℕ) → i < length groups
        → slack_of q w (exchanged x u v a)
        (group_at groups i)
        ≡ ((slack_of q w x (group_at groups i) -ℤ share_of k (group_at groups i) u a) +ℤ share_of k
        (group_at groups i) v a)
    slack-exchanged i lt =
        let g = group_at groups i in
        let s = sum-group k groups ok i x lt kx in
        let t = sum-group k groups ok i (exchanged x u v a) lt (length-exchanged x u v a ∙ kx) in
        let e = sum_over-exchanged (mask k g.members) x u v a (length-mask k g.members ∙ sym kx) xu
        xv ne in
        omega (arith, ints, s, t, e)

    pub slacks_moved : (before after : List ℤ) → AreSlacks q w groups x before
        → length after ≡ length before
        → ((i : ℕ) → i < length before
        → get_or after i
        (pos 0) ≡ ((get_or before i (pos 0) -ℤ share_of k (group_at groups i) u a) +ℤ share_of k
        (group_at groups i) v a)) → AreSlacks q w groups (exchanged x u v a) after
    slacks_moved before after are same moved = record {
      places = same ∙ are.places;
      each = λ i lt.
          let p = are.places in
          let m = moved i (omega (arith, lt, p)) in
          let b = are.each i lt in
          let e = slack-exchanged i lt in
          omega (arith, ints, m, b, e);
    }

-- the first n numbers are written, and the others as before
pub written_more : (to : ℕ → ℤ) (before after : List ℤ) (n : ℕ) (a : ℤ)
    → length after ≡ length before → n < length before
    → ((i : ℕ) → i < n → get_or after i (pos 0) ≡ to i)
    → ((i : ℕ) → n ≤ i → get_or after i (pos 0) ≡ get_or before i (pos 0)) → a ≡ to n
    → record {
      places : length (set after n a) ≡ length before;
      done : (i : ℕ) → i < n + 1
          → get_or (set after n a) i (pos 0) ≡ to i;
      rest : (i : ℕ) → n + 1 ≤ i
          → get_or (set after n a) i (pos 0) ≡ get_or before i (pos 0);
    }
written_more to before after n a same lt done rest here = record {
  places = length-set after n a ∙ same;
  done = λ i li. ⊎_elim
      (λ (l : i < n). get_or-set_other after n i a (pos 0) (λ e. omega (arith, e, l)) ∙ done i l)
      (λ (ge : n ≤ i). let at : i ≡ n = omega arith in rw at
      (get_or-set_same after n a (pos 0) (omega (arith, same, lt)) ∙ here))
      (cases_lt i n);
  rest = λ i le. get_or-set_other after n i a (pos 0) (λ e. omega (arith, e, le))
      ∙ rest i (omega (arith, le));
}

-- a number that is still to be written is small
pub still_small : (before after : List ℤ) (n : ℕ) → n < length before
    → ((i : ℕ) → n ≤ i → get_or after i (pos 0) ≡ get_or before i (pos 0))
    → All (IsAtMost (10 ^ 27)) before → IsAtMost (10 ^ 27) (get_or after n (pos 0))
still_small before after n lt rest small =
    rw (rest n (omega arith)) (All-get_or (IsAtMost (10 ^ 27)) before n (pos 0) lt small)

-- ---- the places that have something

pub support_moved : (x : List ℤ) (s : List Bool) (u v : ℕ) (a : ℤ) (bu bv : Bool) → u < length x
    → v < length x → u ≢ v → IsSupport x s → bu ≡ true ↔ (pos 1 ≤ℤ (get_or x u (pos 0) +ℤ a))
    → bv ≡ true ↔ (pos 1 ≤ℤ (get_or x v (pos 0) -ℤ a))
    → IsSupport (exchanged x u v a) (set (set s u bu) v bv)
support_moved x s u v a bu bv xu xv ne h tu tv = record {
  places = length-set (set s u bu) v bv ∙ (length-set s u bu ∙ (h.places ∙ sym len));
  exact = by_places u v (λ e. e < length (exchanged x u v a) → Has (set (set s u bu) v bv) e
      ↔ (pos 1 ≤ℤ get_or (exchanged x u v a) e (pos 0)))
      (λ lt. rw (
        get_or-set_other (set s u bu) v u bv false ne,
        get_or-set_same s u bu false (omega (arith, p, xu)),
        exchanged-first x u v a xu ne,
      ) tu)
      (λ lt. rw (
        get_or-set_same (set s u bu) v bv false (omega (arith, l1, p, xv)),
        exchanged-second x u v a xv,
      ) tv)
      (λ e eu ev lt. rw (
        get_or-set_other (set s u bu) v e bv false ev,
        get_or-set_other s u e bu false eu,
        exchanged-other x u v e a eu ev,
      )
      (h.exact e (omega (arith, lt, len))));
} where
  len : length (exchanged x u v a) ≡ length x
  len = length-exchanged x u v a

  l1 : length (set s u bu) ≡ length s
  l1 = length-set s u bu

  p : length s ≡ length x
  p = h.places

-- nothing, and then all of a set
pub union-nothing : (n : ℕ) (s : List Bool) → n ≡ length s → union (empty_set n) s ≡ s
union-nothing n s same = same_sets (union (empty_set n) s) s (length-union (empty_set n) s le ∙ le)
    (λ e lt h. ⊎_elim (λ none. absurd (none_in_empty n e none)) (λ has. has)
    (in_union (empty_set n) s e le h))
    (λ e lt h. union_right (empty_set n) s e le h) where
      le : length (empty_set n) ≡ length s
      le = length-replicate n false ∙ same

-- what is kept, if something is: what the places tell of it
pub noted_support : (A : Type 0) (P Q : A → Type 0) (note : Option A) → IfSome note (λ n. P n × Q n)
    → IfSome note Q
noted_support A P Q None h = tt
noted_support A P Q (Some n) h = h.1
