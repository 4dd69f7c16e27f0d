-- Along a walk with fewest steps the exchanges of each term keep a base, from the last to the
-- first.
use Rattle.std.proofs.Common.{◌≡◌, ◌≢◌, ◌⊎◌, ℕ, zero, suc, ◌+◌, ◌<◌, ◌≤◌, Bool, true, false, List, [], ◌∷◌, ◌++◌, length, get_or, set, nat_eq, ℤ, pos, ◌+ℤ◌, ◌-ℤ◌, ◌≤ℤ◌, if◌then◌else◌, refl, sym, ap, ◌∙◌, arith, inl, inr, get_or-set_other, get_or-set_same, length-set}
use Rattle.std.proofs.lemmas.Bool.{both_ways, cases_eq, eq-eqb, ne_eqb}
use Rattle.std.proofs.lemmas.Int.{ints}
use Rattle.std.proofs.lemmas.List.{ext_get_or}
use Rattle.sfm_spec.specs.Sets.{Has}
use Rattle.sfm_spec.specs.Terms.{SetFunction, times, IsFamily, IsSubmodular, IsBase, HasRoom, exchanged}
use Rattle.sfm_spec.specs.Families.{Meaning, AreTerms, AreBases}
use Rattle.sfm_spec.specs.Walks.{Step, term_at, base_at, CanMove, AreSteps, IsWalkMove, AllCanMove, last_of, change_at}
use Rattle.sfm_spec.proofs.Scaled.{family-times, submodular-times}
use Rattle.sfm_spec.proofs.Tight.{TightSet, room_or_split, tight_closed}
use Rattle.sfm_spec.proofs.Walks.{terms-at, bases-at}
use Rattle.sfm_spec.proofs.Order.{places_of, moved, length-moved, NoRooms, InOrder, moved_base}

-- the raised entry
pub exchanged-first : (y : List ℤ) (u v : ℕ) (a : ℤ) → u < length y → u ≢ v
    → get_or (exchanged y u v a) u (pos 0) ≡ (get_or y u (pos 0) +ℤ a)
exchanged-first y u v a ku ne =
    get_or-set_other (set y u (get_or y u (pos 0) +ℤ a)) v u (get_or y v (pos 0) -ℤ a) (pos 0) ne
    ∙ get_or-set_same y u (get_or y u (pos 0) +ℤ a) (pos 0) ku

-- the lowered entry
pub exchanged-second : (y : List ℤ) (u v : ℕ) (a : ℤ) → v < length y
    → get_or (exchanged y u v a) v (pos 0) ≡ (get_or y v (pos 0) -ℤ a)
exchanged-second y u v a kv = get_or-set_same (set y u (get_or y u (pos 0) +ℤ a)) v
    (get_or y v (pos 0) -ℤ a) (pos 0) (rw length-set kv)

-- the other entries stay
pub exchanged-other : (y : List ℤ) (u v j : ℕ) (a : ℤ) → j ≢ u → j ≢ v
    → get_or (exchanged y u v a) j (pos 0) ≡ get_or y j (pos 0)
exchanged-other y u v j a nu nv =
    get_or-set_other (set y u (get_or y u (pos 0) +ℤ a)) v j (get_or y v (pos 0) -ℤ a) (pos 0) nv
    ∙ get_or-set_other y u j (get_or y u (pos 0) +ℤ a) (pos 0) nu

bases-from_at : (q : ℤ) (terms : List Meaning) (rows : List (List ℤ)) → length rows ≡ length terms
    → ((i : ℕ) → i < length terms → (length (base_at rows i) ≡ length (term_at terms i).places)
    × IsBase (times q (term_at terms i).value) (base_at rows i)) → AreBases q terms rows
bases-from_at q [] [] h f = tt
bases-from_at q [] (x ∷ rows) h f = absurd (omega arith)
bases-from_at q (t ∷ terms) [] h f = absurd (omega arith)
bases-from_at q (t ∷ terms) (x ∷ rows) h f =
    let r = f 0 (omega arith) in (
      r.0,
      r.1,
      bases-from_at q terms rows (omega arith) (λ i l. f (suc i) (omega arith)),
    )

-- there are as many rows as terms
pub bases-count : (q : ℤ) (terms : List Meaning) (rows : List (List ℤ)) → AreBases q terms rows
    → length rows ≡ length terms
bases-count q [] [] h = refl
bases-count q [] (x ∷ rows) h = absurd h
bases-count q (t ∷ terms) [] h = absurd h
bases-count q (t ∷ terms) (x ∷ rows) h = let r = bases-count q terms rows h.2 in omega (arith, r)

module _ (terms : List Meaning) (rows : List (List ℤ)) (n : ℕ) (q : ℤ) (low : pos 0 ≤ℤ q)
    (fit : AreTerms n terms) (bases : AreBases q terms rows) (a : ℤ) (one : pos 1 ≤ℤ a) where
  can_steps : (from : ℕ) (steps : List Step) → AllCanMove terms q rows from steps a
      → AreSteps terms q rows from steps
  can_steps from [] h = tt
  can_steps from (s ∷ ss) h = ((a, one, h.0), can_steps s.to ss h.1)

  -- no walk to the same end has fewer steps
  abbrev pub Fewest : ℕ → List Step → Type 0
  Fewest from steps = (other : List Step) → AreSteps terms q rows from other
      → last_of from other ≡ last_of from steps → length steps ≤ length other

  fewest_tail : (from : ℕ) (s : Step) (ss : List Step) → CanMove terms q rows from s a
      → Fewest from (s ∷ ss) → Fewest s.to ss
  fewest_tail from s ss c h other fits same =
      let r = h (s ∷ other) ((a, one, c), fits) same in omega (arith, r)

  -- the step is of term i, from its place m.0 to its place m.1
  pub record AtStep (i : ℕ) (from : ℕ) (s : Step) (m : ℕ × ℕ) : Type 0 where
    pub same : s.term ≡ i
    pub u_in : m.0 < length (term_at terms i).places
    pub v_in : m.1 < length (term_at terms i).places
    pub begins : get_or (term_at terms i).places m.0 0 ≡ from
    pub ends : get_or (term_at terms i).places m.1 0 ≡ s.to
    pub apart : m.0 ≢ m.1
    pub base : IsBase (times q (term_at terms i).value) (exchanged (base_at rows i) m.0 m.1 a)

  -- the moves of term i along the steps
  abbrev pub Follows : ℕ → ℕ → List Step → List (ℕ × ℕ) → Type 0
  Follows i from [] moves = moves ≡ []
  Follows i from (s ∷ ss) moves = ((s.term ≢ i) × Follows i s.to ss moves)
      ⊎ ((m : ℕ × ℕ) × (ms : List (ℕ × ℕ)) × (moves ≡ m ∷ ms) × AtStep i from s m
      × Follows i s.to ss ms)

  -- the moves of term i along steps that can all move the amount
  pub follow : (i from : ℕ) (steps : List Step) → AllCanMove terms q rows from steps a
      → (moves : List (ℕ × ℕ)) × Follows i from steps moves
  follow i from [] h = ([], refl)
  follow i from (s ∷ ss) h = more (follow i s.to ss h.1) (cases_eq s.term i) where
    more : (moves : List (ℕ × ℕ)) × Follows i s.to ss moves → (s.term ≡ i) ⊎ (s.term ≢ i)
        → (moves : List (ℕ × ℕ)) × Follows i from (s ∷ ss) moves
    more (ms, f) (inr ne) = (ms, inl (ne, f))
    more (ms, f) (inl e) = let c = h.0 in let m : ℕ × ℕ = (c.u, c.v) in (
      m ∷ ms,
      inr (
        m,
        ms,
        refl,
        record {
          same = e;
          u_in = rw e at c.u_in;
          v_in = rw e at c.v_in;
          begins = rw e at c.begins;
          ends = rw e at c.ends;
          apart = c.apart;
          base = rw e at c.base;
        },
        f,
      ),
    )

  module _ (i : ℕ) (li : i < length terms) where
    F : SetFunction
    F = times q (term_at terms i).value

    X : List ℤ
    X = base_at rows i

    sized : length (base_at rows i) ≡ length (term_at terms i).places
    sized = (bases-at q terms rows i bases li).0

    -- the row of term i is a base
    pub base : IsBase (times q (term_at terms i).value) (base_at rows i)
    base = (bases-at q terms rows i bases li).1

    -- the sets that term i allows are closed under union and intersection
    pub family : IsFamily (length (base_at rows i)) (times q (term_at terms i).value)
    family = rw sized (family-times (length (term_at terms i).places) q (term_at terms i).value
        (terms-at n terms i fit li).family)

    -- term i is submodular
    pub law : IsSubmodular (length (base_at rows i)) (times q (term_at terms i).value)
    law = rw sized (submodular-times (length (term_at terms i).places) q (term_at terms i).value low
        (terms-at n terms i fit li).submodular)

    abbrev Room : ℕ → ℕ → Type 0
    Room u v = HasRoom (times q (term_at terms i).value) (base_at rows i) u v

    module _ (from u : ℕ) (ku : u < length (term_at terms i).places)
        (pu : get_or (term_at terms i).places u 0 ≡ from) where
      abbrev Bound : ℕ → ℕ → List Step → Type 0
      Bound k cur rest = (other : List Step) → AreSteps terms q rows from other
          → last_of from other ≡ last_of cur rest → k + 1 + length rest ≤ length other

      abbrev Near : ℕ → ℕ → Type 0
      Near k cur = k ≡ 0 → (v : ℕ) × (v < length (term_at terms i).places)
          × (get_or (term_at terms i).places v 0 ≡ cur) × (u ≢ v) × Room u v

      later : (k cur : ℕ) (rest : List Step) (moves : List (ℕ × ℕ))
          → AllCanMove terms q rows cur rest a → Follows i cur rest moves → Bound k cur rest
          → Near k cur
          → NoRooms family law base u (places_of moves)
      later k cur [] moves h f bound near = rw f tt
      later k cur (s ∷ ss) moves h (inl (ne, f)) bound near =
          later (suc k) s.to ss moves h.1 f
          (λ other fits same. let r = bound other fits same in omega (arith, r))
          (λ e. absurd (omega (arith, e)))
      later k cur (s ∷ ss) moves h (inr (m, ms, eq, at, f)) bound near =
          let rest = later (suc k) s.to ss ms h.1 f
          (λ other fits same. let r = bound other fits same in omega (arith, r))
          (λ e. absurd (omega (arith, e))) in
          rw eq (
            rw sized at.u_in,
            ne_u,
            no_u k near bound,
            (rw sized at.v_in, ne_v, no_v, rest),
          ) where
            fits_rest : AreSteps terms q rows s.to ss
            fits_rest = can_steps s.to ss h.1

            ne_v : u ≢ m.1
            ne_v e =
                let same : from ≡ s.to = sym pu
                ∙ (ap (λ z. get_or (term_at terms i).places z 0) e ∙ at.ends) in
                let r = bound ss (rw same fits_rest) (ap (λ z. last_of z ss) same) in
                omega (arith, r)

            ne_u : u ≢ m.0
            ne_u e =
                let same : from ≡ cur = sym pu
                ∙ (ap (λ z. get_or (term_at terms i).places z 0) e ∙ at.begins) in
                let r = bound (s ∷ ss) (rw same ((a, one, h.0), fits_rest)) refl in
                omega (arith, r)

            no_v : Room u m.1 → ⊥
            no_v (b, least, mv) =
                let r = bound (record { to = s.to; term = i } ∷ ss) (
                  (
                    b,
                    least,
                    record {
                      in_range = li;
                      u = u;
                      v = m.1;
                      u_in = ku;
                      v_in = at.v_in;
                      begins = pu;
                      ends = at.ends;
                      apart = ne_v;
                      base = mv;
                    },
                  ),
                  fits_rest,
                ) refl in
                omega (arith, r)

            no_u : (k : ℕ) → Near k cur → Bound k cur (s ∷ ss) → Room u m.0 → ⊥
            no_u (suc k) near bound (b, least, mv) =
                let r = bound (record { to = cur; term = i } ∷ s ∷ ss) (
                  (
                    b,
                    least,
                    record {
                      in_range = li;
                      u = u;
                      v = m.0;
                      u_in = ku;
                      v_in = at.u_in;
                      begins = pu;
                      ends = at.begins;
                      apart = ne_u;
                      base = mv;
                    },
                  ),
                  ((a, one, h.0), fits_rest),
                ) refl in
                omega (arith, r)
            no_u zero near bound _ =
                let (v, kv, pv, nev, room) = near refl in
                let same : v ≡ m.0 = (terms-at n terms i fit li).placed.distinct v m.0 kv at.u_in
                (pv ∙ sym at.begins) in
                split (rw same at room) (room_or_split family law refl base u m.1 (rw sized ku)
                (rw sized at.v_in) ne_v) where
                  split : Room u m.0 → Room u m.1
                      ⊎ ((t : List Bool) × TightSet family law refl base t × Has t u
                      × (get_or t m.1 false ≡ false)) → ⊥
                  split room (inl r) = no_v r
                  split room (inr (t, tight, tu, nt)) =
                      let mid : Has t m.0 = tight_closed family law refl base t u m.0 tight
                      (rw sized ku) (rw sized at.u_in) ne_u tu room in
                      let end : Has t m.1 = tight_closed family law refl base t m.0 m.1 tight
                      (rw sized at.u_in) (rw sized at.v_in) at.apart mid (a, one, at.base) in
                      both_ways (get_or t m.1 false) nt end

    -- along a walk with fewest steps the moves of term i are in order
    pub in_order : (from : ℕ) (steps : List Step) (moves : List (ℕ × ℕ))
        → AllCanMove terms q rows from steps a → Follows i from steps moves → Fewest from steps
        → InOrder family law base a moves
    in_order from [] moves h f few = rw f tt
    in_order from (s ∷ ss) moves h (inl (ne, f)) few =
        in_order s.to ss moves h.1 f (fewest_tail from s ss h.0 few)
    in_order from (s ∷ ss) moves h (inr (m, ms, eq, at, f)) few =
        rw eq (
          rw sized at.u_in,
          rw sized at.v_in,
          at.apart,
          at.base,
          later from m.0 at.u_in at.begins 0 s.to ss ms h.1 f
              (λ other fits same. let r = few other fits same in omega (arith, r))
              (λ e. (m.1, at.v_in, at.ends, at.apart, (a, one, at.base))),
          in_order s.to ss ms h.1 f (fewest_tail from s ss h.0 few),
        )

    abbrev Place : ℕ → ℕ
    Place j = get_or (term_at terms i).places j 0

    -- the row after the moves, entry by entry
    pub moved-at : (from : ℕ) (steps : List Step) (moves : List (ℕ × ℕ))
        → Follows i from steps moves → (j : ℕ) → j < length (base_at rows i)
        → get_or (moved (base_at rows i) a moves) j
        (pos 0) ≡ (get_or (base_at rows i) j (pos 0) +ℤ change_at from steps i (Place j) a)
    moved-at from [] moves f j lj = rw f (omega (arith, ints))
    moved-at from (s ∷ ss) moves (inl (ne, f)) j lj =
        let r = moved-at s.to ss moves f j lj in
        rw (ne_eqb s.term i ne) (omega (arith, ints, r))
    moved-at from (s ∷ ss) moves (inr (m, ms, eq, at, f)) j lj =
        rw (eq, eq-eqb s.term i at.same)
        (cases (moved-at s.to ss ms f j lj) (cases_eq j m.0) (cases_eq j m.1)) where
          y : List ℤ
          y = moved (base_at rows i) a ms

          rest : ℤ
          rest = change_at s.to ss i (Place j) a

          len : length y ≡ length (base_at rows i)
          len = length-moved (base_at rows i) a ms

          lp : j < length (term_at terms i).places
          lp = rw (← sized) lj

          apart_from : (k : ℕ) → k < length (term_at terms i).places → j ≢ k → (e : ℕ) → Place k ≡ e
              → nat_eq e (Place j) ≡ false
          apart_from k lk ne e p = ne_eqb e (Place j)
              (λ same. ne (sym ((terms-at n terms i fit li).placed.distinct k j lk lp (p ∙ same))))

          cases : get_or y j (pos 0) ≡ (get_or (base_at rows i) j (pos 0) +ℤ rest) → (j ≡ m.0)
              ⊎ (j ≢ m.0) → (j ≡ m.1) ⊎ (j ≢ m.1)
              → get_or (exchanged y m.0 m.1 a) j
              (pos 0) ≡ (get_or (base_at rows i) j
              (pos 0) +ℤ (((if nat_eq from (Place j) then a else pos 0)
              -ℤ (if nat_eq s.to (Place j) then a else pos 0)) +ℤ rest))
          cases r (inl eu) (inl ev) = absurd (at.apart (sym eu ∙ ev))
          cases r (inl eu) (inr nv) =
              let here : get_or (exchanged y m.0 m.1 a) j
              (pos 0) ≡ (get_or y j (pos 0) +ℤ a) =
              rw eu (exchanged-first y m.0 m.1 a (rw (len, ← eu) lj) at.apart) in
              let yes : nat_eq from (Place j) ≡ true = eq-eqb from (Place j)
              (sym at.begins ∙ ap Place (sym eu)) in
              rw (yes, apart_from m.1 at.v_in nv s.to at.ends) (omega (arith, ints, here, r))
          cases r (inr nu) (inl ev) =
              let here : get_or (exchanged y m.0 m.1 a) j
              (pos 0) ≡ (get_or y j (pos 0) -ℤ a) =
              rw ev (exchanged-second y m.0 m.1 a (rw (len, ← ev) lj)) in
              let yes : nat_eq s.to (Place j) ≡ true = eq-eqb s.to (Place j)
              (sym at.ends ∙ ap Place (sym ev)) in
              rw (yes, apart_from m.0 at.u_in nu from at.begins) (omega (arith, ints, here, r))
          cases r (inr nu) (inr nv) =
              let here = exchanged-other y m.0 m.1 j a nu nv in
              rw (apart_from m.0 at.u_in nu from at.begins, apart_from m.1 at.v_in nv s.to at.ends)
              (omega (arith, ints, here, r))

    -- the row of term i after the walk move
    pub row_is_moved : (from : ℕ) (steps : List Step) (moves : List (ℕ × ℕ)) (after : List (List ℤ))
        → Follows i from steps moves → IsWalkMove terms rows from steps a after
        → base_at after i ≡ moved (base_at rows i) a moves
    row_is_moved from steps moves after f w =
        ext_get_or (pos 0) (base_at after i) (moved (base_at rows i) a moves)
        (w.same_lengths i ∙ sym (length-moved (base_at rows i) a moves))
        (λ j lj. let l : j < length (base_at rows i) = rw (← w.same_lengths i) lj in w.changed i j l
        ∙ sym (moved-at from steps moves f j l))

  -- after a move along a walk with fewest steps the rows are bases
  pub bases_after : (from : ℕ) (steps : List Step) (after : List (List ℤ))
      → AllCanMove terms q rows from steps a → Fewest from steps
      → IsWalkMove terms rows from steps a after → AreBases q terms after
  bases_after from steps after h few w =
      bases-from_at q terms after (w.same_count ∙ bases-count q terms rows bases) each where
        each : (i : ℕ) → i < length terms
            → (length (base_at after i) ≡ length (term_at terms i).places)
            × IsBase (times q (term_at terms i).value) (base_at after i)
        each i li = at (follow i from steps h) where
          at : (moves : List (ℕ × ℕ)) × Follows i from steps moves
              → (length (base_at after i) ≡ length (term_at terms i).places)
              × IsBase (times q (term_at terms i).value) (base_at after i)
          at (moves, f) =
              let same = row_is_moved i li from steps moves after f w in (
                w.same_lengths i ∙ (bases-at q terms rows i bases li).0,
                rw same (moved_base (family i li) (law i li) (base i li) a moves
                    (omega (arith, ints))
                    (in_order i li from steps moves h f few)),
              )

  suffix : (front : List Step) (from : ℕ) (s : Step) (back : List Step)
      → AllCanMove terms q rows from (front ++ s ∷ back) a → Fewest from (front ++ s ∷ back)
      → AllCanMove terms q rows (last_of from front) (s ∷ back) a
      × Fewest (last_of from front) (s ∷ back)
  suffix [] from s back h few = (h, few)
  suffix (r ∷ rs) from s back h few =
      suffix rs r.to s back h.1 (fewest_tail from r (rs ++ s ∷ back) h.0 few)

  -- a step can still move a after the steps behind it
  pub can_after : (from : ℕ) (s : Step) (back : List Step) (mid : List (List ℤ))
      → AllCanMove terms q rows from (s ∷ back) a → Fewest from (s ∷ back)
      → IsWalkMove terms rows s.to back a mid → CanMove terms q mid from s a
  can_after from s back mid h few w = at (follow s.term s.to back h.1) where
    c : CanMove terms q rows from s a
    c = h.0

    at : (ms : List (ℕ × ℕ)) × Follows s.term s.to back ms → CanMove terms q mid from s a
    at (ms, f) =
        let i = s.term in
        let li = c.in_range in
        let m : ℕ × ℕ = (c.u, c.v) in
        let here : AtStep i from s m = record {
          same = refl;
          u_in = c.u_in;
          v_in = c.v_in;
          begins = c.begins;
          ends = c.ends;
          apart = c.apart;
          base = c.base;
        } in
        let all : Follows i from (s ∷ back) (m ∷ ms) = inr (m, ms, refl, here, f) in
        let moved_is = moved_base (family i li) (law i li) (base i li) a (m ∷ ms)
        (omega (arith, ints)) (in_order i li from (s ∷ back) (m ∷ ms) h all few) in
        record {
          in_range = li;
          u = c.u;
          v = c.v;
          u_in = c.u_in;
          v_in = c.v_in;
          begins = c.begins;
          ends = c.ends;
          apart = c.apart;
          base = rw (row_is_moved i li s.to back ms mid f w) moved_is;
        }

  -- each step can still move the amount at its turn
  pub each_in_order : (first : ℕ) (steps : List Step) → AllCanMove terms q rows first steps a
      → Fewest first steps
      → (front back : List Step) (s : Step) (mid : List (List ℤ)) → steps ≡ front ++ s ∷ back
      → IsWalkMove terms rows s.to back a mid → CanMove terms q mid (last_of first front) s a
  each_in_order first steps h few front back s mid e w =
      let r = suffix front first s back (rw (← e) h) (rw (← e) few) in
      can_after (last_of first front) s back mid r.0 r.1 w
