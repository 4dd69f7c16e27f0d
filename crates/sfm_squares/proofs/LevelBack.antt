-- A base of the sum is a most level one exactly where no walk leads from a place to one at which it
-- is larger by two or more; and walks that join at a whole slope lower the squares.
use Rattle.std.proofs.Common.{◌≡◌, ◌≢◌, ◌⊎◌, ◌↔◌, ℕ, zero, suc, ◌<◌, ◌≤◌, List, [], ◌∷◌, length, get_or, set, replicate, nat_eq, ℤ, pos, neg_ℤ, ◌+ℤ◌, ◌-ℤ◌, ◌*ℤ◌, ◌≤ℤ◌, ◌<ℤ◌, if◌then◌else◌, refl, sym, ap, subst, ◌∙◌, arith, inl, inr, get_or-set_other}
use Rattle.std.proofs.lemmas.Bool.{cases_eq, eq-eqb, ne_eqb}
use Rattle.std.proofs.lemmas.Int.{ints, by_lt_z}
use Rattle.std.proofs.lemmas.List.{get_or-replicate, length-set}
use Rattle.sfm_spec.specs.Terms.{exchanged}
use Rattle.sfm_spec.specs.Families.{Meaning, AreTerms, AreBases, Prove, base_sum_at, rest_at, deficit, even_shift}
use Rattle.sfm_spec.specs.Walks.{Step, base_at, AreSteps, IsWalk, IsShortestTo, IsWalkMove, IsWalkChain, AllCanMove, last_of}
use Rattle.sfm_spec.specs.Labels.{AreDistances, FallsAlong}
use Rattle.sfm_spec.proofs.Scaled.{times-add, times-sub, times-comm, times-mono}
use Rattle.sfm_spec.proofs.Sums.{length-exchanged}
use Rattle.sfm_spec.proofs.Exchange.{base_between}
use Rattle.sfm_spec.proofs.Walks.{terms-at, bases-at, first_below, step_below}
use Rattle.sfm_spec.proofs.MoveOrder.{bases-count, exchanged-first, exchanged-second, exchanged-other}
use Rattle.sfm_spec.proofs.Moves.{move_none, move_more}
use Rattle.sfm_spec.proofs.Gain.{rest_moved, order_kept, bases_kept, move_laws}
use Rattle.sfm_spec.proofs.Labels.{walk_ends_below, shortest_by_distances}
use Rattle.sfm_spec.proofs.FindLabels.{labels_exist}
use Rattle.sfm_spec.proofs.Proving.{prove_if_none}
use Rattle.sfm_squares.specs.Level.{IsSumBase, IsLevel, IsSumOf, squares}
use Rattle.sfm_squares.specs.LevelLaws.{Rises, LevelLaws, MoveLawsTo}
use Rattle.sfm_squares.proofs.LevelLaw.{level_by_slopes, sum_is_base}

squares-set : (z : List ℤ) (i : ℕ) (b : ℤ) → i < length z
    → (squares (set z i b) +ℤ (get_or z i (pos 0) *ℤ get_or z i (pos 0))) ≡ (squares z +ℤ (b *ℤ b))
squares-set [] i b l = absurd (omega arith)
squares-set (a ∷ z) zero b l = omega (arith, ints)
squares-set (a ∷ z) (suc i) b l =
    let r = squares-set z i b (omega (arith, l)) in omega (arith, ints, r)

square-more : (x a : ℤ) → ((x +ℤ a) *ℤ (x +ℤ a)) ≡ (((x *ℤ x) +ℤ (pos 2 *ℤ (a *ℤ x))) +ℤ (a *ℤ a))
square-more x a =
    let s = times-add (x +ℤ a) x a in
    let c = times-comm (x +ℤ a) x in
    let d = times-comm (x +ℤ a) a in
    let e = times-add x x a in
    let f = times-add a x a in
    let g = times-comm x a in
    omega (arith, ints, s, c, d, e, f, g)

square-less : (x a : ℤ) → ((x -ℤ a) *ℤ (x -ℤ a)) ≡ (((x *ℤ x) -ℤ (pos 2 *ℤ (a *ℤ x))) +ℤ (a *ℤ a))
square-less x a =
    let s = times-sub (x -ℤ a) x a in
    let c = times-comm (x -ℤ a) x in
    let d = times-comm (x -ℤ a) a in
    let e = times-sub x x a in
    let f = times-sub a x a in
    let g = times-comm x a in
    omega (arith, ints, s, c, d, e, f, g)

squares-exchanged : (z : List ℤ) (u v : ℕ) (a : ℤ) → u < length z → v < length z → u ≢ v
    → squares (exchanged z u v a)
    ≡ (squares z
    +ℤ (pos 2 *ℤ (((a *ℤ get_or z u (pos 0)) -ℤ (a *ℤ get_or z v (pos 0))) +ℤ (a *ℤ a))))
squares-exchanged z u v a lu lv ne =
    let x = get_or z u (pos 0) in
    let y = get_or z v (pos 0) in
    let w = set z u (x +ℤ a) in
    let one = squares-set z u (x +ℤ a) lu in
    let two = squares-set w v (y -ℤ a) (rw length-set lv) in
    let at : get_or w v (pos 0) ≡ y = get_or-set_other z u v (x +ℤ a) (pos 0) (λ e. ne (sym e)) in
    let three = rw at at two in
    let m = square-more x a in
    let l = square-less y a in
    omega (arith, ints, one, three, m, l)

module _ (terms : List Meaning) (rows : List (List ℤ)) (n : ℕ) (q : ℤ) (low : pos 0 ≤ℤ q)
    (fit : AreTerms n terms) (bases : AreBases q terms rows) where
  -- each step can move one
  moves_one : (from : ℕ) (steps : List Step) → AreSteps terms q rows from steps
      → AllCanMove terms q rows from steps (pos 1)
  moves_one from [] h = tt
  moves_one from (step ∷ steps) ((a, least, can), rest) =
      let b = bases-at q terms rows step.term bases can.in_range in
      let less = base_between b.1 (rw b.0 can.u_in) (rw b.0 can.v_in) can.apart (pos 1) a
      (omega (arith, ints)) least can.base in (
        record {
          in_range = can.in_range;
          u = can.u;
          v = can.v;
          u_in = can.u_in;
          v_in = can.v_in;
          begins = can.begins;
          ends = can.ends;
          apart = can.apart;
          base = less;
        },
        moves_one step.to steps rest,
      )

  -- there are rows after a move
  after_exists : (a : ℤ) (from : ℕ) (steps : List Step) → AllCanMove terms q rows from steps a
      → (after : List (List ℤ)) × IsWalkMove terms rows from steps a after
  after_exists a from [] h = (rows, move_none terms rows from a)
  after_exists a from (step ∷ steps) (can, rest) =
      let (mid, w) = after_exists a step.to steps rest in
      let b = bases-at q terms rows step.term bases can.in_range in
      let t = terms-at n terms step.term fit can.in_range in (
        set mid step.term (exchanged (base_at mid step.term) can.u can.v a),
        move_more terms rows mid from step steps a can.u can.v t.placed.distinct b.0 can.u_in
            can.v_in can.apart can.begins can.ends
            (rw (bases-count q terms rows bases) can.in_range) w,
      )

  -- what a walk's move leaves of the sum
  sum_moved : (z : List ℤ) → IsSumOf terms n rows z → (first : ℕ) (steps : List Step) (a : ℤ)
      → first < n → last_of first steps < n → first ≢ last_of first steps → pos 1 ≤ℤ a
      → AllCanMove terms q rows first steps a → (after : List (List ℤ))
      → IsWalkMove terms rows first steps a after
      → IsSumOf terms n after (exchanged z first (last_of first steps) a)
  sum_moved z sum first steps a lf ll ne one can after w =
      record {
        places = length-exchanged z first (last_of first steps) a ∙ sum.places;
        exact = λ e le. at e le (cases_eq e first) (cases_eq e (last_of first steps));
      } where
        last : ℕ
        last = last_of first steps

        moved : (e : ℕ) → rest_at terms after []
            e ≡ (rest_at terms rows [] e
            +ℤ ((if nat_eq first e then a else pos 0)
            -ℤ (if nat_eq (last_of first steps) e then a else pos 0)))
        moved e = rest_moved terms rows n q low fit bases first steps a one can [] after w e

        at : (e : ℕ) → e < n → (e ≡ first) ⊎ (e ≢ first) → (e ≡ last_of first steps)
            ⊎ (e ≢ last_of first steps) → get_or (exchanged z first (last_of first steps) a) e
            (pos 0) ≡ base_sum_at terms after e
        at e le (inl ef) (inl el) = absurd (ne (sym ef ∙ el))
        at e le (inl ef) (inr nl) =
            let m = rw (eq-eqb first e (sym ef), ne_eqb (last_of first steps) e (λ s. nl (sym s)))
            at
            (moved e) in
            let x = exchanged-first z first (last_of first steps) a (rw sum.places lf) ne in
            let s = sum.exact e le in
            let g = subst (λ i. get_or (exchanged z first (last_of first steps) a) i
            (pos 0) ≡ (get_or z i (pos 0) +ℤ a)) (sym ef) x in
            omega (arith, ints, m, g, s)
        at e le (inr nf) (inl el) =
            let m = rw (ne_eqb first e (λ s. nf (sym s)), eq-eqb (last_of first steps) e (sym el))
            at
            (moved e) in
            let x = exchanged-second z first (last_of first steps) a (rw sum.places ll) in
            let s = sum.exact e le in
            let g = subst (λ i. get_or (exchanged z first (last_of first steps) a) i
            (pos 0) ≡ (get_or z i (pos 0) -ℤ a)) (sym el) x in
            omega (arith, ints, m, g, s)
        at e le (inr nf) (inr nl) =
            let m = rw (
              ne_eqb first e (λ s. nf (sym s)),
              ne_eqb (last_of first steps) e (λ s. nl (sym s)),
            ) at (moved e) in
            let x = exchanged-other z first (last_of first steps) e a nf nl in
            let s = sum.exact e le in
            omega (arith, ints, m, x, s)

  near_back : (IsLast : ℕ → Type 0) (d : ℕ → ℕ) → AreDistances terms n q rows IsLast d
      → (from : ℕ) (steps : List Step) → AreSteps terms q rows from steps
      → d (last_of from steps) ≤ n → d from ≤ n
  near_back IsLast d distances from [] h near = near
  near_back IsLast d distances from (step ∷ steps) h near =
      distances.closed from step h.0 (near_back IsLast d distances step.to steps h.1 near)

  falling_walk : (IsLast : ℕ → Type 0) (d : ℕ → ℕ) → AreDistances terms n q rows IsLast d
      → (k : ℕ) (e : ℕ) → e < n → d e ≤ n → d e ≡ k
      → (steps : List Step) × AreSteps terms q rows e steps × FallsAlong d e steps
      × IsLast (last_of e steps) × (length steps ≡ k)
  falling_walk IsLast d distances zero e le near is = ([], tt, tt, distances.at_last e le is, refl)
  falling_walk IsLast d distances (suc k) e le near is =
      let (step, h, falls) = distances.leads e le (omega (arith, is)) near in
      let (steps, fit', falls', last, count) = falling_walk IsLast d distances k step.to
      (step_below terms rows n q low fit bases e step h) (omega (arith, falls, near))
      (omega (arith, falls, is)) in
      (step ∷ steps, (h, fit'), (falls, falls'), last, omega (arith, count))

  -- from a place to one of those at which z is larger by two or more there is a shortest walk, if
  -- there is any
  shortest_exists : (IsLast : ℕ → Type 0) → ((e : ℕ) → IsLast e ⊎ (IsLast e → ⊥))
      → (first : ℕ) (steps : List Step) → IsWalk terms q rows first steps
      → IsLast (last_of first steps) → (IsLast first → ⊥)
      → (others : List Step) × IsShortestTo terms q rows IsLast first others
  shortest_exists IsLast decided first steps walk arrives apart =
      let (d, l, labels) = labels_exist terms rows n q low fit bases IsLast decided in
      let distances = labels.distances in
      let lf : first < n = first_below terms rows n q low fit bases first steps walk in
      let z = distances.lasts (last_of first steps)
      (walk_ends_below terms rows n q low fit bases first steps walk) arrives in
      let near = near_back IsLast d distances first steps walk.steps_fit (omega (arith, z)) in
      let (others, fit', falls, last, count) = falling_walk IsLast d distances (d first) first lf
      near refl in (
        others,
        shortest_by_distances terms rows n q low fit bases IsLast d distances first others
            (record { steps_exist = some others last; steps_fit = fit' }) falls last,
      )
    where
      some : (others : List Step) → IsLast (last_of first others) → 0 < length others
      some [] last = absurd (apart last)
      some (step ∷ others) last = omega arith

module _ (terms : List Meaning) (rows : List (List ℤ)) (n : ℕ) (fit : AreTerms n terms)
    (bases : AreBases (pos 1) terms rows) (z : List ℤ) (sum : IsSumOf terms n rows z) where
  one_low : pos 0 ≤ℤ pos 1
  one_low = omega (arith, ints)

  -- a walk that rises by two or more is none of a most level base
  level_none : ((y : List ℤ) → IsSumBase terms n y → squares z ≤ℤ squares y)
      → (first : ℕ) (steps : List Step) → Rises terms rows first steps → ⊥
  level_none least first steps h =
      clash (shortest_exists terms rows n (pos 1) one_low fit bases IsHigh decided first steps
      h.walk h.rises (λ same. omega (arith, ints, same))) where
        IsHigh : ℕ → Type 0
        IsHigh e = (base_sum_at terms rows first +ℤ pos 2) ≤ℤ base_sum_at terms rows e

        decided : (e : ℕ) → IsHigh e ⊎ (IsHigh e → ⊥)
        decided e = by_lt_z (base_sum_at terms rows e) (base_sum_at terms rows first +ℤ pos 2)
            (λ lt. inr (λ le. omega (arith, ints, lt, le))) (λ le. inl le)

        clash : (others : List Step) × IsShortestTo terms (pos 1) rows IsHigh first others → ⊥
        clash (others, shortest) =
            let can = moves_one terms rows n (pos 1) one_low fit bases first others
            shortest.walk.steps_fit in
            let (after, w) = after_exists terms rows n (pos 1) one_low fit bases (pos 1) first
            others
            can in
            let lf = first_below terms rows n (pos 1) one_low fit bases first others
            shortest.walk in
            let ll = walk_ends_below terms rows n (pos 1) one_low fit bases first others
            shortest.walk in
            let high : (base_sum_at terms rows first +ℤ pos 2) ≤ℤ base_sum_at terms rows
            (last_of first others) = shortest.arrives in
            let ne : first ≢ last_of first others = λ same. let k = ap (base_sum_at terms rows)
            same in omega (arith, ints, k, high) in
            let kept = bases_kept terms rows n (pos 1) one_low fit bases first others (pos 1)
            (omega (arith, ints)) can IsHigh shortest ne after w in
            let moved = sum_moved terms rows n (pos 1) one_low fit bases z sum first others (pos 1)
            lf
            ll ne (omega (arith, ints)) can after w in
            let base = sum_is_base terms n after (exchanged z first (last_of first others) (pos 1))
            fit
            kept moved in
            let le = least (exchanged z first (last_of first others) (pos 1)) base in
            let sq = squares-exchanged z first (last_of first others) (pos 1) (rw sum.places lf)
            (rw sum.places ll) ne in
            let x = sum.exact first lf in
            let y = sum.exact (last_of first others) ll in
            omega (arith, ints, le, sq, x, y, high)

  -- where no walk rises by two or more, the bases prove at each whole slope
  none_proves : ((first : ℕ) (steps : List Step) → Rises terms rows first steps → ⊥) → (t : ℤ)
      → Prove terms n (pos 1) (even_shift n t) rows
  none_proves none t = prove_if_none terms rows n (pos 1) (even_shift n t) one_low fit bases
      (λ first steps j.
      let lf = first_below terms rows n (pos 1) one_low fit bases first steps j.walk in
      let ll = walk_ends_below terms rows n (pos 1) one_low fit bases first steps j.walk in
      let below : (base_sum_at terms rows first -ℤ get_or (replicate n t) first (pos 0)) <ℤ pos
      0 = j.below in
      let above : pos 0 <ℤ (base_sum_at terms rows (last_of first steps) -ℤ get_or (replicate n t)
      (last_of first steps) (pos 0)) = j.above in
      let rf : get_or (replicate n t) first (pos 0) ≡ t = get_or-replicate n first t (pos 0) lf in
      let rl : get_or (replicate n t) (last_of first steps) (pos 0) ≡ t = get_or-replicate n
      (last_of first steps) t (pos 0) ll in
      none first steps
      (record { walk = j.walk; rises = omega (arith, ints, below, above, rf, rl) }))

  -- a base of the sum is a most level one exactly where no walk rises
  pub level_exact : IsLevel terms n z
      ↔ ((first : ℕ) (steps : List Step) → Rises terms rows first steps → ⊥)
  level_exact = (
    (λ level. level_none level.least),
    (λ none. level_by_slopes terms n rows z (sum_is_base terms n rows z fit bases sum) sum
        (none_proves none)),
  )

-- a chain of moves at a whole slope lowers the squares by at least twice what the deficit rises
pub chain_squares : (terms : List Meaning) (n : ℕ) (t : ℤ) → AreTerms n terms
    → (k : ℕ) (rows last : List (List ℤ)) → AreBases (pos 1) terms rows → (z : List ℤ)
    → IsSumOf terms n rows z
    → IsWalkChain terms (pos 1) (even_shift n t) k rows last
    → (y : List ℤ) × IsSumOf terms n last y
    × ((squares y
    +ℤ (pos 2 *ℤ (deficit n (rest_at terms last (even_shift n t)) -ℤ deficit n
    (rest_at terms rows (even_shift n t))))) ≤ℤ squares z)
chain_squares terms n t fit zero rows last bases z sum same = (
  z,
  rw same sum,
  let e = ap (λ r. deficit n (rest_at terms r (even_shift n t)))
      same in omega (arith, ints, e),
)
chain_squares terms n t fit (suc k) rows last bases z sum (mid, move, rest) =
    let low : pos 0 ≤ℤ pos 1 = omega (arith, ints) in
    let sh = even_shift n t in
    let laws = move_laws terms rows n (pos 1) sh low fit bases move.first move.steps move.a
    move.shortest move.some move.by_steps move.by_first move.by_last in
    let gain = laws.gains mid move.moved in
    let walk = move.shortest.shortest.walk in
    let v = last_of move.first move.steps in
    let lf = first_below terms rows n (pos 1) low fit bases move.first move.steps walk in
    let ll = walk_ends_below terms rows n (pos 1) low fit bases move.first move.steps walk in
    let under : move.a ≤ℤ neg_ℤ (base_sum_at terms rows move.first -ℤ get_or (replicate n t)
    move.first (pos 0)) = move.by_first in
    let over : move.a ≤ℤ (base_sum_at terms rows v -ℤ get_or (replicate n t) v
    (pos 0)) = move.by_last in
    let rf : get_or (replicate n t) move.first (pos 0) ≡ t = get_or-replicate n move.first t (pos 0)
    lf in
    let rl : get_or (replicate n t) v (pos 0) ≡ t = get_or-replicate n v t (pos 0) ll in
    let some = move.some in
    let ne : move.first ≢ v = λ same. let m = ap (base_sum_at terms rows)
    same in omega (arith, ints, m, under, over, rf, rl, some) in
    let moved = sum_moved terms rows n (pos 1) low fit bases z sum move.first move.steps move.a lf
    ll ne some move.by_steps mid move.moved in
    let sq = squares-exchanged z move.first v move.a (rw sum.places lf) (rw sum.places ll) ne in
    let x = sum.exact move.first lf in
    let y = sum.exact v ll in
    let wide = times-mono move.a (pos 2 *ℤ move.a)
    (get_or z v (pos 0) -ℤ get_or z move.first (pos 0)) (omega (arith, ints, some))
    (omega (arith, ints, under, over, rf, rl, x, y)) in
    let apart = times-sub move.a (get_or z v (pos 0)) (get_or z move.first (pos 0)) in
    let twice = times-add move.a move.a move.a in
    let two : (move.a *ℤ (pos 2 *ℤ move.a)) ≡ (move.a *ℤ (move.a +ℤ move.a)) = ap (λ b. move.a *ℤ b)
    (omega (arith, ints)) in
    let least = times-mono move.a (pos 1) move.a (omega (arith, ints, some)) some in
    let r = chain_squares terms n t fit k mid last (laws.bases mid move.moved)
    (exchanged z move.first v move.a) moved rest in
    let s = r.2 in
    (r.0, r.1, omega (arith, ints, gain, sq, wide, apart, twice, two, least, s))

-- what bases add up to is a base of the sum, and which of these are the most level
pub level_laws : (terms : List Meaning) (n : ℕ) (rows : List (List ℤ)) → AreTerms n terms
    → AreBases (pos 1) terms rows → LevelLaws terms n rows
level_laws terms n rows fit bases = record {
  sum = λ z sum. sum_is_base terms n rows z fit bases sum;
  exact = λ z sum. level_exact terms rows n fit bases z sum;
}

-- what a move along a shortest walk to any last places does
pub move_laws_to : (terms : List Meaning) (n : ℕ) (q : ℤ) (rows : List (List ℤ)) → pos 0 ≤ℤ q
    → AreTerms n terms → AreBases q terms rows → (IsLast : ℕ → Type 0) (first : ℕ)
    (steps : List Step) (a : ℤ) → (IsLast first → ⊥) → pos 1 ≤ℤ a
    → IsShortestTo terms q rows IsLast first steps → AllCanMove terms q rows first steps a
    → MoveLawsTo terms q rows first steps a
move_laws_to terms n q rows low fit bases IsLast first steps a apart one shortest can = record {
  in_order = order_kept terms rows n q low fit bases first steps a one can IsLast shortest differs;
  bases = bases_kept terms rows n q low fit bases first steps a one can IsLast shortest differs;
  ends = λ after w e. ended after w e;
} where
  differs : first ≢ last_of first steps
  differs same = apart (subst IsLast (sym same) shortest.arrives)

  ended : (after : List (List ℤ)) → IsWalkMove terms rows first steps a after → (e : ℕ)
      → base_sum_at terms after e ≡ (base_sum_at terms rows e
      +ℤ ((if nat_eq first e then a else pos 0)
      -ℤ (if nat_eq (last_of first steps) e then a else pos 0)))
  ended after w e =
      let m = rest_moved terms rows n q low fit bases first steps a one can [] after w e in
      omega (arith, ints, m)
