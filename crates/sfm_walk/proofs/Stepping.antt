-- The exchanges of a walk, from its first step on: what the steps so far have changed.
use Rattle.std.proofs.Common.{◌≡◌, ◌≢◌, ℕ, zero, suc, ◌*◌, ◌^◌, ◌<◌, List, [], ◌∷◌, ◌++◌, length, get_or, set, map, take, drop, ℤ, pos, ◌+ℤ◌, ◌≤ℤ◌, refl, sym, ap, ◌∙◌, arith}
use Rattle.std.specs.List.{All}
use Rattle.std.proofs.lemmas.Int.{ints}
use Rattle.std.proofs.lemmas.List.Elements.{All-get_or, All-from_get_or}
use Rattle.sfm_spec.specs.Bounds.{IsAtMost, IsEntry}
use Rattle.sfm_spec.specs.Terms.{exchanged}
use Rattle.sfm_spec.specs.Families.{Meaning, AreTerms, AreBases}
use Rattle.sfm_spec.specs.Labels.{FallsAlong}
use Rattle.sfm_spec.specs.Walks.{Step, term_at, base_at, CanMove, IsWalkMove, AllCanMove, change_at, last_of}
use Rattle.sfm_spec.proofs.Moves.{move_none, move_more, change_small}
use Rattle.sfm_spec.proofs.MoveOrder.{bases-count}
use Rattle.sfm_spec.proofs.Walks.{terms-at, bases-at}

-- what steps and further steps change in all
change_append : (from : ℕ) (xs ys : List Step) (i e : ℕ) (a : ℤ)
    → change_at from (xs ++ ys) i e
    a ≡ (change_at from xs i e a +ℤ change_at (last_of from xs) ys i e a)
change_append from [] ys i e a = omega (arith, ints)
change_append from (s ∷ xs) ys i e a =
    let r = change_append s.to xs ys i e a in omega (arith, ints, r)

-- a move along steps, and then along further steps
pub move_append : (terms : List Meaning) (rows mid after : List (List ℤ)) (from : ℕ)
    (xs ys : List Step) (a : ℤ) → IsWalkMove terms rows from xs a mid
    → IsWalkMove terms mid (last_of from xs) ys a after
    → IsWalkMove terms rows from (xs ++ ys) a after
move_append terms rows mid after from xs ys a one two = record {
  same_count = two.same_count ∙ one.same_count;
  same_lengths = λ i. two.same_lengths i ∙ one.same_lengths i;
  changed = λ i j l.
      let l' : j < length (base_at mid i) = rw (one.same_lengths i) l in
      let c = one.changed i j l in
      let c' = two.changed i j l' in
      let k = change_append from xs ys i (get_or (term_at terms i).places j 0) a in
      omega (arith, ints, c, c', k);
}

-- where steps and further ones end
pub last_append : (from : ℕ) (xs ys : List Step)
    → last_of from (xs ++ ys) ≡ last_of (last_of from xs) ys
last_append from [] ys = refl
last_append from (s ∷ xs) ys = last_append s.to xs ys

-- the distance falls along the steps so far
falls_front : (d : ℕ → ℕ) (from : ℕ) (xs ys : List Step) → FallsAlong d from (xs ++ ys)
    → FallsAlong d from xs
falls_front d from [] ys h = tt
falls_front d from (s ∷ xs) ys h = (h.0, falls_front d s.to xs ys h.1)

-- the next step can move the amount
can_next : (terms : List Meaning) (q : ℤ) (rows : List (List ℤ)) (from : ℕ) (xs : List Step)
    (s : Step) (ys : List Step) (a : ℤ) → AllCanMove terms q rows from (xs ++ s ∷ ys) a
    → CanMove terms q rows (last_of from xs) s a
can_next terms q rows from [] s ys a h = h.0
can_next terms q rows from (x ∷ xs) s ys a h = can_next terms q rows x.to xs s ys a h.1

module _ (terms : List Meaning) (n : ℕ) (q : ℤ) (fit : AreTerms n terms) (init : List (List ℤ))
    (bases : AreBases q terms init) (first : ℕ) (a : ℤ) (low : pos 0 ≤ℤ a) where
  -- no entry has changed by more than the amount
  pub stepped_small : (d : ℕ → ℕ) (xs ys : List Step) → FallsAlong d first (xs ++ ys)
      → All (λ x. All IsEntry x) init → a ≤ℤ pos (10 ^ 30) → (rows : List (List ℤ))
      → IsWalkMove terms init first xs a rows → All (λ x. All (IsAtMost (2 * 10 ^ 30)) x) rows
  stepped_small d xs ys falls small high rows w =
      All-from_get_or (λ x. All (IsAtMost (2 * 10 ^ 30)) x) rows []
      (λ i li. All-from_get_or (IsAtMost (2 * 10 ^ 30)) (base_at rows i) (pos 0) (λ j l.
      let l' : j < length (base_at init i) = rw (← w.same_lengths i) l in
      let li' : i < length init = rw (← w.same_count) li in
      let c = w.changed i j l' in
      let b : IsEntry (get_or (base_at init i) j (pos 0)) = All-get_or IsEntry (base_at init i) j
      (pos 0) l' (All-get_or (λ x. All IsEntry x) init i [] li' small) in
      let s = change_small d first xs i (get_or (term_at terms i).places j 0) a low
      (falls_front d first xs ys falls) in
      record {
        low = omega (arith, ints, c, b.low, s, high);
        high = omega (arith, ints, c, b.high, s, high);
      }))

  module _ (xs : List Step) (s : Step) (ys : List Step)
      (can : AllCanMove terms q init first (xs ++ s ∷ ys) a) (rows : List (List ℤ))
      (w : IsWalkMove terms init first xs a rows) where
    pub next : CanMove terms q init (last_of first xs) s a
    next = can_next terms q init first xs s ys a can

    pub next_count : s.term < length rows
    next_count = rw (w.same_count ∙ bases-count q terms init bases) next.in_range

    pub next_length : length (base_at rows s.term) ≡ length (term_at terms s.term).places
    next_length = w.same_lengths s.term ∙ (bases-at q terms init s.term bases next.in_range).0

    -- the exchange of the step
    pub stepped : (u v : ℕ) → u < length (term_at terms s.term).places
        → v < length (term_at terms s.term).places
        → get_or (term_at terms s.term).places u 0 ≡ last_of first xs
        → get_or (term_at terms s.term).places v 0 ≡ s.to
        → IsWalkMove terms init first (xs ++ s ∷ []) a
        (set rows s.term (exchanged (base_at rows s.term) u v a))
    stepped u v lu lv begins ends = move_append terms init rows after first xs (s ∷ []) a w
        (move_more terms rows rows (last_of first xs) s [] a u v distinct next_length lu lv apart
        begins ends next_count (move_none terms rows s.to a)) where
          distinct : (i j : ℕ) → i < length (term_at terms s.term).places
              → j < length (term_at terms s.term).places
              → get_or (term_at terms s.term).places i 0 ≡ get_or (term_at terms s.term).places j 0
              → i ≡ j
          distinct = (terms-at n terms s.term fit next.in_range).placed.distinct

          after : List (List ℤ)
          after = set rows s.term (exchanged (base_at rows s.term) u v a)

          apart : u ≢ v
          apart same = next.apart (distinct next.u u next.u_in lu (next.begins ∙ sym begins)
              ∙ (same ∙ distinct v next.v lv next.v_in (ends ∙ sym next.ends)))

-- what is told of each member of a list, split at one of them
pub map_split : {X Y : Type 0} (f : X → Y) (xs : List X) (k : ℕ) (d : X) → k < length xs
    → map f xs ≡ map f (take k xs) ++ f (get_or xs k d) ∷ map f (drop (suc k) xs)
map_split f [] k d l = absurd (omega arith)
map_split f (x ∷ xs) zero d l = refl
map_split f (x ∷ xs) (suc k) d l = ap (λ s. f x ∷ s) (map_split f xs k d (omega arith))
