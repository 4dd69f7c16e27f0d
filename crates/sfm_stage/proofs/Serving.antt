-- A walk of a stage is a walk move at every slope between. It ends above the highest of them, so
-- above each; the places above a higher slope are among those above the lowest, so none of them is
-- nearer to its first place; and what is left at its ends allows the amount, as it is multiplied.
use Rattle.std.proofs.Common.{◌≡◌, ℕ, ◌+◌, ◌*◌, ◌^◌, ◌<◌, ◌≤◌, List, [], length, get_or, ℤ, pos, neg_ℤ, ◌-ℤ◌, ◌*ℤ◌, ◌≤ℤ◌, ◌<ℤ◌, refl, arith}
use Rattle.std.specs.List.{All}
use Rattle.std.proofs.lemmas.Int.{ints, by_lt_z}
use Rattle.std.proofs.lemmas.List.Elements.{All-get_or, All-from_get_or}
use Rattle.sfm_spec.specs.Bounds.{IsAtMost}
use Rattle.sfm_spec.specs.Families.{Meaning, AreTerms, AreBases, base_sum_at, rest_at}
use Rattle.sfm_spec.specs.Labels.{FallsAlong}
use Rattle.sfm_spec.specs.Walks.{Step, term_at, base_at, IsStep, IsWalk, AllCanMove, IsWalkMove, IsShortest, MovesAlong, last_of}
use Rattle.sfm_spec.proofs.Labels.{falls_all, falls_within, steps_end_below}
use Rattle.sfm_spec.proofs.Moves.{change_small}
use Rattle.sfm_spec.proofs.Scaled.{times-mono, times-neg, times-sub}
use Rattle.sfm_stage.specs.Served.{AreOrdered, IsBetween, IsServing}
use Rattle.sfm_stage.proofs.Times.{all_can_times, move_times, rest_times, some_times, steps_back, steps_times}
use Rattle.sfm_exchange.specs.Scaled.{rows_times}

-- a walk along which distances to the places above the lower shift fall by one at each step, and by
-- no step faster, with an amount that its steps allow, and its ends at either shift
pub record IsStageWalk (terms : List Meaning) (low high : List ℤ) (rows : List (List ℤ)) (d : ℕ → ℕ)
    (first : ℕ) (steps : List Step) (a : ℤ) : Type 0 where
  pub first_in : first < length low
  pub last_in : last_of first steps < length low
  pub walk : IsWalk terms (pos 1) rows first steps
  pub falls : FallsAlong d first steps
  pub no_faster : (from : ℕ) (step : Step) → IsStep terms (pos 1) rows from step
      → d from ≤ d step.to + 1
  pub ends : (e : ℕ) → e < length low → pos 0 <ℤ rest_at terms rows low e → d e ≡ 0
  pub some : pos 1 ≤ℤ a
  pub can : AllCanMove terms (pos 1) rows first steps a
  pub by_first : a ≤ℤ neg_ℤ (rest_at terms rows low first)
  pub by_last : a ≤ℤ rest_at terms rows high (last_of first steps)

module _ {terms : List Meaning} {low high : List ℤ} {rows : List (List ℤ)} {d : ℕ → ℕ} {first : ℕ}
    {steps : List Step} {a : ℤ} (w : IsStageWalk terms low high rows d first steps a)
    (fit : AreTerms (length low) terms) (bases : AreBases (pos 1) terms rows) where
  -- no walk to a place above the lower shift has fewer steps
  fewest_low : (other : List Step) → IsWalk terms (pos 1) rows first other
      → pos 0 <ℤ rest_at terms rows low (last_of first other) → length steps ≤ length other
  fewest_low other walk over =
      let mine = falls_all d first steps w.falls in
      let theirs = falls_within terms (pos 1) rows d w.no_faster first other walk.steps_fit in
      let zero' = w.ends (last_of first other)
      (steps_end_below terms rows (length low) (pos 1) (omega (arith, ints)) fit bases first
      other w.first_in walk.steps_fit) over in
      omega (arith, mine, theirs, zero')

  -- it is a shortest walk at the lower shift
  pub over_low : AreOrdered low high → a ≤ℤ rest_at terms rows low (last_of first steps)
  over_low order =
      let o = order.order (last_of first steps) w.last_in in
      let l = w.by_last in
      omega (arith, ints, o, l)

  pub shortest_low : AreOrdered low high → IsShortest terms (pos 1) low rows first steps
  shortest_low order = record {
    shortest = record {
      walk = w.walk;
      arrives = let o = over_low order in let s = w.some in omega (arith, ints, o, s);
      fewest = fewest_low;
    };
    below = let f = w.by_first in let s = w.some in omega (arith, ints, f, s);
  }

  module _ (q : ℤ) (shift : List ℤ) (b : IsBetween q low high shift) where
    abbrev B : ℕ → ℤ
    B e = base_sum_at terms rows e

    abbrev last : ℕ
    last = last_of first steps

    positive : pos 0 ≤ℤ q
    positive = let p = b.positive in omega (arith, ints, p)

    first_allows : (q *ℤ a) ≤ℤ neg_ℤ (rest_at terms (rows_times q rows) shift first)
    first_allows =
        let L = get_or low first (pos 0) in
        let r = rest_times q b.positive terms rows shift first in
        let m = times-mono q a (neg_ℤ (B first -ℤ L)) positive w.by_first in
        let n = times-neg q (B first -ℤ L) in
        let s = times-sub q (B first) L in
        let above = b.above first w.first_in in
        omega (arith, ints, r, m, n, s, above)

    last_allows : (q *ℤ a) ≤ℤ rest_at terms (rows_times q rows) shift last
    last_allows =
        let H = get_or high last (pos 0) in
        let r = rest_times q b.positive terms rows shift last in
        let m = times-mono q a (B last -ℤ H) positive w.by_last in
        let s = times-sub q (B last) H in
        let below = b.below last w.last_in in
        omega (arith, ints, r, m, s, below)

    some : pos 1 ≤ℤ (q *ℤ a)
    some = some_times q b.positive a w.some

    -- what is above the shift is above the lower one
    above_low : (e : ℕ) → e < length low → pos 0 <ℤ rest_at terms (rows_times q rows) shift e
        → pos 0 <ℤ rest_at terms rows low e
    above_low e le over =
        let L = get_or low e (pos 0) in
        let r = rest_times q b.positive terms rows shift e in
        let above = b.above e le in
        by_lt_z (pos 0) (B e -ℤ L) (λ lt. lt) (λ ge.
        let m = times-mono q (B e) L positive (omega (arith, ints, ge)) in
        absurd (omega (arith, ints, m, r, above, over)))

    fewest : (other : List Step) → IsWalk terms q (rows_times q rows) first other
        → pos 0 <ℤ rest_at terms (rows_times q rows) shift (last_of first other)
        → length steps ≤ length other
    fewest other walk over =
        let fits = steps_back q b.positive terms rows (length low) fit bases first other
        walk.steps_fit in
        let inside = steps_end_below terms rows (length low) (pos 1) (omega (arith, ints)) fit bases
        first other w.first_in fits in
        fewest_low other (record { steps_exist = walk.steps_exist; steps_fit = fits })
        (above_low (last_of first other) inside over)

    pub serves : (after : List (List ℤ)) → IsWalkMove terms rows first steps a after
        → MovesAlong terms q shift (rows_times q rows) (rows_times q after)
    serves after moved = record {
      first = first;
      steps = steps;
      a = q *ℤ a;
      shortest = record {
        shortest = record {
          walk = record {
            steps_exist = w.walk.steps_exist;
            steps_fit = steps_times q b.positive terms rows first steps w.walk.steps_fit;
          };
          arrives = let l = last_allows in let s = some in omega (arith, ints, l, s);
          fewest = fewest;
        };
        below = let f = first_allows in let s = some in omega (arith, ints, f, s);
      };
      some = some;
      by_steps = all_can_times q b.positive terms rows first steps a w.can;
      by_first = first_allows;
      by_last = last_allows;
      moved = move_times q b.positive terms rows after first steps a moved;
    }

  -- no entry has changed by more than the amount
  spread_by : a ≤ℤ pos (10 ^ 20) → (after : List (List ℤ))
      → IsWalkMove terms rows first steps a after → (m : ℕ) → All (λ x. All (IsAtMost m) x) rows
      → All (λ x. All (IsAtMost (m + 1 * 10 ^ 20)) x) after
  spread_by most after moved m small = All-from_get_or (λ x. All (IsAtMost (m + 1 * 10 ^ 20)) x)
      after [] (λ i li. All-from_get_or (IsAtMost (m + 1 * 10 ^ 20)) (base_at after i) (pos 0)
      (λ j lj.
      let li' : i < length rows = rw moved.same_count at li in
      let lj' : j < length (base_at rows i) = rw (moved.same_lengths i) at lj in
      let c = moved.changed i j lj' in
      let one = w.some in
      let s = change_small d first steps i (get_or (term_at terms i).places j 0) a
      (omega (arith, ints, one)) w.falls in
      let o : IsAtMost m (get_or (base_at rows i) j (pos 0)) = All-get_or (IsAtMost m)
      (base_at rows i) j (pos 0) lj'
      (All-get_or (λ x. All (IsAtMost m) x) rows i [] li' small) in
      record {
        low = omega (arith, ints, c, s, o.low, most);
        high = omega (arith, ints, c, s, o.high, most);
      }))

  -- the move serves all slopes between
  pub serving_one : a ≤ℤ pos (10 ^ 20) → (after : List (List ℤ))
      → IsWalkMove terms rows first steps a after → IsServing terms low high 1 rows after
  serving_one most after moved = record {
    served = λ q shift b. (rows_times q after, serves q shift b after moved, refl);
    spread = spread_by most after moved;
  }
