-- The exchanges of a walk, from its last step to its first.
use Rattle.std.proofs.Common.{◌≡◌, ◌≢◌, ⊎_elim, ℕ, zero, suc, ◌*◌, ◌^◌, ◌<◌, ◌≤◌, List, [], ◌∷◌, ◌++◌, length, get_or, set, take, drop, ℤ, pos, ◌≤ℤ◌, refl, sym, ap, subst, ◌∙◌, arith, get_or-set_same}
use Rattle.std.proofs.lemmas.Int.{ints}
use Rattle.std.proofs.lemmas.List.Elements.{All-get_or, All-from_get_or}
use Rattle.std.specs.List.{All}
use Rattle.sfm_spec.specs.Sets.{AreDistinct}
use Rattle.sfm_spec.specs.Bounds.{IsAtMost, IsEntry}
use Rattle.sfm_spec.specs.Terms.{times, IsBase, exchanged}
use Rattle.sfm_spec.specs.Families.{Meaning, AreTerms, AreBases}
use Rattle.sfm_spec.specs.Labels.{FallsAlong}
use Rattle.sfm_spec.specs.Walks.{term_at, base_at, CanMove, IsWalkMove, last_of}
use Rattle.sfm_spec.proofs.Sums.{length-exchanged}
use Rattle.sfm_spec.proofs.Walks.{terms-at, bases-at}
use Rattle.sfm_spec.proofs.Moves.{move_none, move_more, change_small}
use Rattle.sfm_spec.proofs.Capacity.{capacity_or_unsplit}
use Rattle.sfm_law.proofs.Lists.{length-bases}
use Rattle.sfm_law.specs.declared.room.Room.TheVariants.{Upto, Unbounded}
use Rattle.sfm_law.specs.Room.{IsWithinRoom}
use Rattle.sfm_exchange.specs.declared.path.Hop.{Hop}
use Rattle.sfm_exchange.specs.Hops.{IsHop, AreNamed, AreInOrder, CanExchange, hop_at, step_of, steps_of}

-- with a row that is a base the rows stay bases
pub bases_set : (q : ℤ) (terms : List Meaning) (rows : List (List ℤ)) (i : ℕ) (y : List ℤ)
    → AreBases q terms rows → i < length terms → length y ≡ length (term_at terms i).places
    → IsBase (times q (term_at terms i).value) y → AreBases q terms (set rows i y)
bases_set q [] rows i y h l sized base = absurd (omega arith)
bases_set q (t ∷ terms) [] i y h l sized base = absurd h
bases_set q (t ∷ terms) (x ∷ rows) zero y h l sized base = (sized, base, h.2)
bases_set q (t ∷ terms) (x ∷ rows) (suc i) y h l sized base =
    (h.0, h.1, bases_set q terms rows i y h.2 (omega arith) sized base)

-- the place at which the step k begins
abbrev pub begin_of : ℕ → List Hop → ℕ → ℕ
begin_of first hops k = last_of first (steps_of (take k hops))

-- the step k names its places
pub named_at : (terms : List Meaning) (first : ℕ) (hops : List Hop) (k : ℕ)
    → AreNamed terms first hops → k < length hops
    → IsHop terms (begin_of first hops k) (hop_at hops k)
named_at terms first [] k h l = absurd (omega arith)
named_at terms first (x ∷ hops) zero h l = h.0
named_at terms first (x ∷ hops) (suc k) h l = named_at terms x.to hops k h.1 (omega arith)

-- the next step begins where it ends
pub begin_more : (first : ℕ) (hops : List Hop) (k : ℕ) → k < length hops
    → begin_of first hops (suc k) ≡ (hop_at hops k).to
begin_more first [] k l = absurd (omega arith)
begin_more first (x ∷ hops) zero l = refl
begin_more first (x ∷ hops) (suc k) l = begin_more x.to hops k (omega arith)

-- the steps before, the step and the steps behind it
pub split_at : (hops : List Hop) (k : ℕ) → k < length hops
    → steps_of hops ≡ steps_of (take k hops) ++ step_of (hop_at hops k) ∷ steps_of
    (drop (suc k) hops)
split_at [] k l = absurd (omega arith)
split_at (x ∷ hops) zero l = refl
split_at (x ∷ hops) (suc k) l = ap (λ s. step_of x ∷ s) (split_at hops k (omega arith))

-- the step and those behind it
pub drop_step : (hops : List Hop) (k : ℕ) → k < length hops
    → steps_of (drop k hops) ≡ step_of (hop_at hops k) ∷ steps_of (drop (suc k) hops)
drop_step [] k l = absurd (omega arith)
drop_step (x ∷ hops) zero l = refl
drop_step (x ∷ hops) (suc k) l = drop_step hops k (omega arith)

-- the distance falls along the steps behind
pub falls_drop : (d : ℕ → ℕ) (first : ℕ) (hops : List Hop) (k : ℕ) → k ≤ length hops
    → FallsAlong d first (steps_of hops)
    → FallsAlong d (begin_of first hops k) (steps_of (drop k hops))
falls_drop d first hops zero l h = h
falls_drop d first [] (suc k) l h = absurd (omega arith)
falls_drop d first (x ∷ hops) (suc k) l h = falls_drop d x.to hops k (omega arith) h.1

-- the steps from the number k on have moved
pub record HaveMoved (terms : List Meaning) (q : ℤ) (init : List (List ℤ)) (first : ℕ)
    (hops : List Hop) (a : ℤ) (k : ℕ) (rows : List (List ℤ)) : Type 0 where
  pub few : k ≤ length hops
  pub moved : IsWalkMove terms init (begin_of first hops k) (steps_of (drop k hops)) a rows
  pub bases : AreBases q terms rows

module _ (terms : List Meaning) (n : ℕ) (q : ℤ) (fit : AreTerms n terms) (init : List (List ℤ))
    (first : ℕ) (hops : List Hop) (a : ℤ) (one : pos 1 ≤ℤ a) (named : AreNamed terms first hops)
    (order : AreInOrder terms q init first (steps_of hops) a) where
  module _ (k : ℕ) (rows : List (List ℤ))
      (h : HaveMoved terms q init first hops a (suc k) rows) where
    abbrev hop : Hop
    hop = hop_at hops k

    abbrev places : List ℕ
    places = (term_at terms (hop_at hops k).term).places

    inside : k < length hops
    inside = let l = h.few in omega (arith, l)

    pub names : IsHop terms (begin_of first hops k) (hop_at hops k)
    names = named_at terms first hops k named inside

    can : CanMove terms q rows (begin_of first hops k) (step_of (hop_at hops k)) a
    can = order (steps_of (take k hops)) (steps_of (drop (suc k) hops)) (step_of (hop_at hops k))
        rows (split_at hops k inside) (rw (begin_more first hops k inside) at h.moved)

    distinct : AreDistinct (term_at terms (hop_at hops k).term).places
    distinct = (terms-at n terms (hop_at hops k).term fit names.term_in).placed.distinct

    same_u : can.u ≡ (hop_at hops k).u
    same_u = distinct can.u (hop_at hops k).u can.u_in names.u_in (can.begins ∙ sym names.begins)

    same_v : can.v ≡ (hop_at hops k).v
    same_v = distinct can.v (hop_at hops k).v can.v_in names.v_in (can.ends ∙ sym names.ends)

    pub next_apart : (hop_at hops k).u ≢ (hop_at hops k).v
    next_apart e = can.apart (same_u ∙ (e ∙ sym same_v))

    next_base : IsBase (times q (term_at terms (hop_at hops k).term).value)
        (exchanged (base_at rows (hop_at hops k).term) (hop_at hops k).u (hop_at hops k).v a)
    next_base = rw (same_u, same_v) at can.base

    pub row_base : (length (base_at rows (hop_at hops k).term) ≡ length
        (term_at terms (hop_at hops k).term).places)
        × IsBase (times q (term_at terms (hop_at hops k).term).value)
        (base_at rows (hop_at hops k).term)
    row_base = bases-at q terms rows (hop_at hops k).term h.bases names.term_in

    -- the amount is within the room
    pub next_room : IsWithinRoom (times q (term_at terms (hop_at hops k).term).value)
        (base_at rows (hop_at hops k).term) (hop_at hops k).u (hop_at hops k).v a
    next_room = ⊎_elim
        (λ (c, capacity). (Upto c, capacity, capacity.greatest a next_base))
        (λ unsplit. (Unbounded, unsplit, tt))
        (capacity_or_unsplit row_base.1 (hop_at hops k).u (hop_at hops k).v
        (rw row_base.0 names.u_in) (rw row_base.0 names.v_in) next_apart)

    -- the exchange of the step
    pub have_moved_more : length (base_at init (hop_at hops k).term) ≡ length
        (term_at terms (hop_at hops k).term).places → length init ≡ length terms
        → HaveMoved terms q init first hops a k
        (set rows (hop_at hops k).term
        (exchanged (base_at rows (hop_at hops k).term) (hop_at hops k).u (hop_at hops k).v a))
    have_moved_more sized count = record {
      few = let l = h.few in omega (arith, l);
      moved = rw (drop_step hops k inside)
          (move_more terms init rows (begin_of first hops k) (step_of (hop_at hops k))
          (steps_of (drop (suc k) hops)) a (hop_at hops k).u (hop_at hops k).v distinct sized
          names.u_in names.v_in next_apart names.begins names.ends
          (rw count names.term_in) (rw (begin_more first hops k inside) at h.moved));
      bases = bases_set q terms rows (hop_at hops k).term
          (exchanged (base_at rows (hop_at hops k).term) (hop_at hops k).u (hop_at hops k).v a)
          h.bases names.term_in
          (length-exchanged (base_at rows (hop_at hops k).term) (hop_at hops k).u (hop_at hops k).v
          a ∙ row_base.0) next_base;
    }

  -- the exchange of the step, from bases
  pub exchange_moved : AreBases q terms init → (k : ℕ) (rows : List (List ℤ))
      → HaveMoved terms q init first hops a (suc k) rows
      → HaveMoved terms q init first hops a k
      (set rows (hop_at hops k).term
      (exchanged (base_at rows (hop_at hops k).term) (hop_at hops k).u (hop_at hops k).v a))
  exchange_moved bases k rows h =
      have_moved_more k rows h (bases-at q terms init (hop_at hops k).term bases
      (names k rows h).term_in).0 (length-bases q terms init bases)

  -- no entry has changed by more than the amount
  pub moved_small : (d : ℕ → ℕ) → FallsAlong d first (steps_of hops)
      → All (λ x. All (IsAtMost (5 * 10 ^ 29)) x) init → a ≤ℤ pos (5 * 10 ^ 29)
      → (k : ℕ) (rows : List (List ℤ)) → HaveMoved terms q init first hops a k rows
      → (i : ℕ) → i < length init → All IsEntry (base_at rows i)
  moved_small d falls small high k rows h i li =
      All-from_get_or IsEntry (base_at rows i) (pos 0) (λ j l.
      let l' : j < length (base_at init i) = rw (← h.moved.same_lengths i) l in
      let c = h.moved.changed i j l' in
      let b : IsAtMost (5 * 10 ^ 29) (get_or (base_at init i) j (pos 0)) = All-get_or
      (IsAtMost (5 * 10 ^ 29)) (base_at init i) j (pos 0) l'
      (All-get_or (λ x. All (IsAtMost (5 * 10 ^ 29)) x) init i [] li small) in
      let s = change_small d (begin_of first hops k) (steps_of (drop k hops)) i
      (get_or (term_at terms i).places j 0) a (omega (arith, ints, one))
      (falls_drop d first hops k h.few falls) in
      record {
        low = omega (arith, ints, c, b.low, s, high);
        high = omega (arith, ints, c, b.high, s, high);
      })

  -- so the next exchange can be made
  pub can_exchange : (d : ℕ → ℕ) → FallsAlong d first (steps_of hops)
      → All (λ x. All (IsAtMost (5 * 10 ^ 29)) x) init → a ≤ℤ pos (5 * 10 ^ 29)
      → AreBases q terms init → (k : ℕ) (rows : List (List ℤ))
      → HaveMoved terms q init first hops a (suc k) rows
      → CanExchange terms q rows (hop_at hops k) a
  can_exchange d falls small high bases k rows h = record {
    term_in = named'.term_in;
    small = moved_small d falls small high (suc k) rows h i li;
    after = subst (All IsEntry) (get_or-set_same rows i y [] lr)
        (moved_small d falls small high k (set rows i y) (exchange_moved bases k rows h) i li);
    swap = record {
      apart = next_apart k rows h;
      from = rw (row_base k rows h).0 named'.u_in;
      onto = rw (row_base k rows h).0 named'.v_in;
      low = omega (arith, ints, one);
      high = omega (arith, ints, high);
      room = next_room k rows h;
    };
  } where
    named' : IsHop terms (begin_of first hops k) (hop_at hops k)
    named' = names k rows h

    i : ℕ
    i = (hop_at hops k).term

    y : List ℤ
    y = exchanged (base_at rows (hop_at hops k).term) (hop_at hops k).u (hop_at hops k).v a

    li : (hop_at hops k).term < length init
    li = rw (length-bases q terms init bases) named'.term_in

    lr : (hop_at hops k).term < length rows
    lr = rw (length-bases q terms rows h.bases) named'.term_in

  -- before the first exchange
  pub have_moved_none : AreBases q terms init
      → HaveMoved terms q init first hops a (length hops) init
  have_moved_none bases = record {
    few = omega arith;
    moved = rw (drop_all hops) (move_none terms init (begin_of first hops (length hops)) a);
    bases = bases;
  } where
    drop_all : (xs : List Hop) → steps_of (drop (length xs) xs) ≡ []
    drop_all [] = refl
    drop_all (x ∷ xs) = drop_all xs
