-- What the layers of a rank bring, counted level by level from the first, with bounds on all sums.
use Rattle.std.proofs.Common.{◌≡◌, ⊎_elim, ℕ, zero, suc, ◌+◌, ◌*◌, ◌<◌, ◌≤◌, ◌^◌, Bool, List, [], ◌∷◌, length, get_or, map, drop, sum, ℤ, pos, ◌+ℤ◌, ◌-ℤ◌, ◌*ℤ◌, ◌≤ℤ◌, ◌<ℤ◌, Some, sym, ap, subst, ◌∙◌, arith}
use Rattle.std.specs.List.{All}
use Rattle.std.proofs.Math.IntN.{*ℤ-zero}
use Rattle.std.proofs.lemmas.Bool.{cases_lt}
use Rattle.std.proofs.lemmas.Int.{ints}
use Rattle.std.proofs.lemmas.List.{drop_more, drop_all, get_or-drop, get_or_default, get_or_past, length-replicate}
use Rattle.std.proofs.lemmas.List.Elements.{All-head, All-tail, All-weaker}
use Rattle.std.proofs.lemmas.List.Sums.{sum_by-cons}
use Rattle.sfm_base.proofs.Elements.{placed_few}
use Rattle.sfm_base.proofs.Members.{whole_with}
use Rattle.sfm_spec.specs.Sets.{size, whole_set, intersection}
use Rattle.sfm_spec.specs.Bounds.{IsGiven}
use Rattle.sfm_spec.specs.Laws.{ones}
use Rattle.sfm_spec.proofs.Ones.{sum-ones}
use Rattle.sfm_spec.proofs.Scaled.{times-mono, times-add, times-sub, times-assoc, times-comm}
use Rattle.sfm_spec.proofs.Sizes.{size_below_length}
use Rattle.sfm_rank.specs.Matroids.{AreRanks}
use Rattle.sfm_layers.specs.Weights.{IsGreatestWeight, AreLevels, at_least, next_level}
use Rattle.sfm_layers.specs.Layers.{by_levels}
use Rattle.sfm_layers.proofs.Levels.{AreFalling, by_levels-same}
use Rattle.sfm_layers.proofs.Ones.{greatest-one, greatest-of-rank}
use Rattle.sfm_kind.specs.Meanings.{kind_places, IsIndependentIn, factor_of}
use Rattle.sfm_kind.specs.Layers.{IsWeight, IsRankKind, Brings}
use Rattle.sfm_kind.specs.Restricted.{IsRankOver, IsLevelWeighed, level_behind}
use Rattle.sfm_kind.specs.declared.kind.Kind.{Kind}
use Rattle.sfm_kind.specs.declared.kind.Kind.TheVariants.{Weight, Cut, Cover, Need, Table, Concave, Uniform, Laminar, Graphic, Transversal}
use Rattle.sfm_kind.proofs.Bounds.{kind-elements}
use Rattle.sfm_kind.proofs.Layered.{length-at_least, rank_from}
use Rattle.sfm_kind.proofs.Levels.{levels-falling}
use Rattle.sfm_kind.proofs.Brought.{AreWeightsOf, ranked-by, levels-weigh}
use Rattle.sfm_kind.proofs.Stepped.{step-is}
use Rattle.sfm_kind.proofs.Parted.{over-low, factor-low}

-- ---- the levels from one on

falling-drop : (levels : List ℤ) (j : ℕ) → AreFalling levels → AreFalling (drop j levels)
falling-drop levels zero f = f
falling-drop [] (suc j) f = f
falling-drop (v ∷ levels) (suc j) f = falling-drop levels j f.2

next-behind : (levels : List ℤ) (j : ℕ) → next_level (drop (j + 1) levels) ≡ level_behind levels j
next-behind levels j = get_or-drop (j + 1) levels 0 (pos 0)
    ∙ (let e : (j + 1) + 0 ≡ suc j = omega arith in ap (λ n. get_or levels n (pos 0)) e)

next-low : (v : ℤ) (levels : List ℤ) → AreFalling (v ∷ levels) → (pos 0 ≤ℤ next_level levels)
    × (next_level levels ≤ℤ v)
next-low v [] h = (omega (arith, ints), h.0)
next-low v (u ∷ levels) h = let l = All-head (λ u. u <ℤ v) u levels
    h.1 in (h.2.0, omega (arith, ints, l))

-- ---- what levels make of numbers between two bounds

by_levels-low : (g : ℤ → ℤ) (levels : List ℤ) → AreFalling levels → ((v : ℤ) → pos 0 ≤ℤ g v)
    → pos 0 ≤ℤ by_levels g levels
by_levels-low g [] f low = omega (arith, ints)
by_levels-low g (v ∷ levels) f low =
    let n = next-low v levels f in
    let m = times-mono (v -ℤ next_level levels) (pos 0) (g v) (omega (arith, ints, n)) (low v) in
    let z = *ℤ-zero (v -ℤ next_level levels) in
    let r = by_levels-low g levels f.2 low in
    omega (arith, ints, m, z, r)

by_levels-most : (g : ℤ → ℤ) (n : ℤ) (levels : List ℤ) → AreFalling levels → ((v : ℤ) → g v ≤ℤ n)
    → by_levels g levels ≤ℤ (n *ℤ next_level levels)
by_levels-most g n [] f most = let z = *ℤ-zero n in omega (arith, ints, z)
by_levels-most g n (v ∷ levels) f most =
    let low = next-low v levels f in
    let m = times-mono (v -ℤ next_level levels) (g v) n (omega (arith, ints, low)) (most v) in
    let c = times-comm (v -ℤ next_level levels) n in
    let s = times-sub n v (next_level levels) in
    let r = by_levels-most g n levels f.2 most in
    omega (arith, ints, m, c, s, r)

-- each step is at least one, so levels make of some counts at least their sum
counts-most : (f : ℤ → ℕ) (levels : List ℤ) → AreFalling levels → All (λ v. pos 1 ≤ℤ v) levels
    → pos (sum (map f levels)) ≤ℤ by_levels (λ v. pos (f v)) levels
counts-most f [] h positive = omega (arith, ints)
counts-most f (v ∷ levels) h positive =
    let c = sum_by-cons (λ (n : ℕ). n) (f v) (map f levels) in
    let m = times-mono (pos (f v)) (pos 1) (v -ℤ next_level levels) (omega (arith, ints))
    (step v levels h positive) in
    let k = times-comm (pos (f v)) (v -ℤ next_level levels) in
    let r = counts-most f levels h.2 (All-tail (λ v. pos 1 ≤ℤ v) v levels positive) in
    omega (arith, ints, c, m, k, r)
  where
    step : (v : ℤ) (levels : List ℤ) → AreFalling (v ∷ levels) → All (λ v. pos 1 ≤ℤ v) (v ∷ levels)
        → pos 1 ≤ℤ (v -ℤ next_level levels)
    step v [] h positive = let p = All-head (λ v. pos 1 ≤ℤ v) v []
        positive in omega (arith, ints, p)
    step v (u ∷ levels) h positive =
        let l = All-head (λ u. u <ℤ v) u levels h.1 in omega (arith, ints, l)

-- ---- one level more

places-next : (f : ℤ → ℕ) (levels : List ℤ) (j places : ℕ) → j < length levels
    → places + sum (map f (drop j levels)) ≡ sum (map f levels)
    → (places + f (get_or levels j (pos 0))) + sum (map f (drop (j + 1) levels)) ≡ sum
    (map f levels)
places-next f levels j places lt so_far =
    let e = ap (λ l. sum (map f l)) (drop_more levels j (pos 0) lt) in
    let c = sum_by-cons (λ (n : ℕ). n) (f (get_or levels j (pos 0)))
    (map f (drop (j + 1) levels)) in
    omega (arith, e, c, so_far)

size-next : (w : ℤ) (g : ℤ → ℤ) (levels : List ℤ) (j : ℕ) (total : ℤ) → j < length levels
    → (total +ℤ (w *ℤ by_levels g (drop j levels))) ≡ (w *ℤ by_levels g levels)
    → ((total +ℤ ((w *ℤ (get_or levels j (pos 0) -ℤ level_behind levels j)) *ℤ g
    (get_or levels j (pos 0)))) +ℤ (w *ℤ by_levels g (drop (j + 1) levels)))
    ≡ (w *ℤ by_levels g levels)
size-next w g levels j total lt so_far =
    let v = get_or levels j (pos 0) in
    let rest = drop (j + 1) levels in
    let e : by_levels g (drop j levels)
    ≡ (((v -ℤ next_level rest) *ℤ g v) +ℤ by_levels g rest) =
    ap (λ l. by_levels g l) (drop_more levels j (pos 0) lt) in
    let n : ((v -ℤ next_level rest) *ℤ g v)
    ≡ ((v -ℤ level_behind levels j) *ℤ g v) =
    ap (λ b. (v -ℤ b) *ℤ g v) (next-behind levels j) in
    let all : (w *ℤ by_levels g (drop j levels))
    ≡ (w *ℤ (((v -ℤ level_behind levels j) *ℤ g v) +ℤ by_levels g rest)) =
    ap (λ x. w *ℤ x) (e ∙ ap (λ x. x +ℤ by_levels g rest) n) in
    let sum = times-add w ((v -ℤ level_behind levels j) *ℤ g v) (by_levels g rest) in
    let one = times-assoc w (v -ℤ level_behind levels j) (g v) in
    omega (arith, ints, so_far, all, sum, one)

-- ---- the numbers of one level

pub record AreFactors (w step r : ℤ) : Type 0 where
  pub each_low : pos 0 ≤ℤ (w *ℤ step)
  pub each_high : (w *ℤ step) ≤ℤ pos (10 ^ 33)
  pub low : pos 0 ≤ℤ ((w *ℤ step) *ℤ r)
  pub high : ((w *ℤ step) *ℤ r) ≤ℤ pos (256 * 10 ^ 33)

are-factors : (w step r : ℤ) → pos 0 ≤ℤ w → IsGiven w → pos 0 ≤ℤ step → step ≤ℤ pos (10 ^ 15)
    → pos 0 ≤ℤ r → r ≤ℤ pos 256 → AreFactors w step r
are-factors w step r wl given sl sh rl rh =
    let z = *ℤ-zero w in
    let low = times-mono w (pos 0) step wl sl in
    let up = times-mono w step (pos (10 ^ 15)) wl sh in
    let each_low : pos 0 ≤ℤ (w *ℤ step) = omega (arith, ints, z, low) in
    let each_high : (w *ℤ step) ≤ℤ pos (10 ^ 33) = omega (arith, ints, up, given) in
    let y = *ℤ-zero (w *ℤ step) in
    let least = times-mono (w *ℤ step) (pos 0) r each_low rl in
    let most = times-mono (w *ℤ step) r (pos 256) each_low rh in
    record {
      each_low = each_low;
      each_high = each_high;
      low = omega (arith, ints, y, least);
      high = omega (arith, ints, most, each_high);
    }

pub factor-given : (kind : Kind) → IsGiven (factor_of kind)
factor-given (Uniform term) = term.given
factor-given (Laminar term) = term.given
factor-given (Graphic term) = term.given
factor-given (Transversal term) = term.given
factor-given (Weight term) = record { low = omega (arith, ints); high = omega (arith, ints) }
factor-given (Cut term) = record { low = omega (arith, ints); high = omega (arith, ints) }
factor-given (Cover term) = record { low = omega (arith, ints); high = omega (arith, ints) }
factor-given (Need term) = record { low = omega (arith, ints); high = omega (arith, ints) }
factor-given (Table term) = record { low = omega (arith, ints); high = omega (arith, ints) }
factor-given (Concave term) = record { low = omega (arith, ints); high = omega (arith, ints) }

weights-few : (rank : Kind) (weights : List ℤ) → length weights ≡ length (kind_places rank)
    → length weights ≤ 256
weights-few rank weights each =
    let few = placed_few 256 (kind_places rank)
    (kind-elements rank).placed in omega (arith, each, few)

over-high : (rank : Kind) (keep : List Bool) (r : ℤ) → IsRankOver rank keep r
    → r ≤ℤ pos (length keep)
over-high rank keep r h =
    let (t, lt, wt, it, et) = h.reached in
    let sum = sum-ones (length keep) t lt in
    let few = size_below_length t in
    omega (arith, ints, et, sum, few, lt)

pub level-factors : (rank : Kind) (weights levels : List ℤ) (j : ℕ) (r : ℤ)
    → length weights ≡ length (kind_places rank) → All (IsWeight (10 ^ 15)) weights
    → AreLevels weights levels → j < length levels
    → IsRankOver rank (at_least (get_or levels j (pos 0)) weights) r
    → AreFactors (factor_of rank) (get_or levels j (pos 0) -ℤ level_behind levels j) r
level-factors rank weights levels j r each given are lt over =
    let is = step-is weights levels j given are lt in
    let few = weights-few rank weights each in
    let count = length-at_least (get_or levels j (pos 0)) weights in
    let most = over-high rank (at_least (get_or levels j (pos 0)) weights) r over in
    are-factors (factor_of rank) (get_or levels j (pos 0) -ℤ level_behind levels j) r
    (factor-low rank) (factor-given rank) (omega (arith, ints, is.step_low))
    (omega (arith, ints, is.step_high, is.high))
    (over-low rank (at_least (get_or levels j (pos 0)) weights) r over)
    (omega (arith, ints, most, count, few))

-- ---- what the first levels bring, and with the others all

pub record AreWeighed (rank : Kind) (weights levels : List ℤ) (j places : ℕ) (total : ℤ) : Type
    0 where
  pub places_are : places + sum (map (λ v. size (at_least v weights)) (drop j levels)) ≡ sum
      (map (λ v. size (at_least v weights)) levels)
  pub worth : (ranks : List Bool → ℕ) → AreRanks (length weights) (IsIndependentIn rank) ranks
      → (total +ℤ (factor_of rank *ℤ by_levels (λ v. pos (ranks (at_least v weights)))
      (drop j levels))) ≡ (factor_of rank *ℤ by_levels (λ v. pos (ranks (at_least v weights)))
      levels)

pub weighed-begin : (rank : Kind) (weights levels : List ℤ)
    → AreWeighed rank weights levels 0 0 (pos 0)
weighed-begin rank weights levels =
    record { places_are = omega arith; worth = λ ranks are. omega (arith, ints) }

-- from each level on, no more than 256 elements count up to the greatest weight
from-most : (weights levels : List ℤ) (j : ℕ) (g : ℤ → ℤ) → All (IsWeight (10 ^ 15)) weights
    → AreLevels weights levels → ((v : ℤ) → pos 0 ≤ℤ g v) → ((v : ℤ) → g v ≤ℤ pos 256)
    → (pos 0 ≤ℤ by_levels g (drop j levels)) × (by_levels g (drop j levels) ≤ℤ pos (256 * 10 ^ 15))
from-most weights levels j g given are low most =
    let positive : All (λ a. pos 1 ≤ℤ a) weights = All-weaker (IsWeight (10 ^ 15)) (λ a. pos 1 ≤ℤ a)
    (λ a h. h.0) weights given in
    let f = falling-drop levels j (levels-falling weights levels positive are) in
    let m = by_levels-most g (pos 256) (drop j levels) f most in
    let e : next_level (drop j levels) ≡ get_or levels j (pos 0) = get_or-drop j levels 0 (pos 0)
    ∙ (let n : j + 0 ≡ j = omega arith in ap (λ n. get_or levels n (pos 0)) n) in
    let h : get_or levels j (pos 0) ≤ℤ pos (10 ^ 15) = ⊎_elim
    (λ lt. (step-is weights levels j given are lt).high)
    (λ ge. let z = get_or_past levels j (pos 0) ge in omega (arith, ints, z))
    (cases_lt j (length levels)) in
    (by_levels-low g (drop j levels) f low, omega (arith, ints, m, e, h))

scaled : (w b : ℤ) → pos 0 ≤ℤ w → IsGiven w → pos 0 ≤ℤ b → b ≤ℤ pos (256 * 10 ^ 15)
    → (pos 0 ≤ℤ (w *ℤ b)) × ((w *ℤ b) ≤ℤ pos (256 * 10 ^ 33))
scaled w b wl given bl bh =
    let z = *ℤ-zero w in
    let low = times-mono w (pos 0) b wl bl in
    let up = times-mono w b (pos (256 * 10 ^ 15)) wl bh in
    (omega (arith, ints, z, low), omega (arith, ints, up, given))

-- all the places fit
all-places : (weights levels : List ℤ) → length weights ≤ 256 → All (IsWeight (10 ^ 15)) weights
    → AreLevels weights levels → sum (map (λ v. size (at_least v weights)) levels) ≤ 256 * 10 ^ 15
all-places weights levels few given are =
    let positive : All (λ a. pos 1 ≤ℤ a) weights = All-weaker (IsWeight (10 ^ 15)) (λ a. pos 1 ≤ℤ a)
    (λ a h. h.0) weights given in
    let count : (v : ℤ) → size (at_least v weights) ≤ 256 = λ v. let s = size_below_length
    (at_least v weights) in let l = length-at_least v weights in omega (arith, s, l, few) in
    let ones : All (λ v. pos 1 ≤ℤ v) levels = λ k d l. at k d l in
    let most = counts-most (λ v. size (at_least v weights)) levels
    (levels-falling weights levels positive are) ones in
    let all = from-most weights levels 0 (λ v. pos (size (at_least v weights))) given are
    (λ v. omega (arith, ints)) (λ v. let c = count v in omega (arith, ints, c)) in
    omega (arith, ints, most, all.1)
  where
    at : (k : ℕ) (d : ℤ) → k < length levels → pos 1 ≤ℤ get_or levels k d
    at k d l = let same = get_or_default levels k d (pos 0)
        l in omega (arith, ints, same, (step-is weights levels k given are l).low)

pub record IsWeighedOn (rank : Kind) (weights levels : List ℤ) (j places : ℕ) (total : ℤ) : Type
    0 where
  pub few : places ≤ 256 * 10 ^ 15
  pub low : pos 0 ≤ℤ (total +ℤ pos (256 * 10 ^ 33))
  pub high : total ≤ℤ pos (256 * 10 ^ 33)
  pub next : AreWeighed rank weights levels j places total

module _ (rank : Kind) (weights levels : List ℤ) (kind : IsRankKind rank)
    (each : length weights ≡ length (kind_places rank)) (given : All (IsWeight (10 ^ 15)) weights)
    (are : AreLevels weights levels) where
  are-weights : AreWeightsOf rank weights
  are-weights = record {
    kind = kind;
    each = each;
    positive = All-weaker (IsWeight (10 ^ 15)) (λ a. pos 1 ≤ℤ a) (λ a h. h.0) weights given;
  }

  rank-few : (ranks : List Bool → ℕ) → AreRanks (length weights) (IsIndependentIn rank) ranks
      → (v : ℤ) → pos (ranks (at_least v weights)) ≤ℤ pos 256
  rank-few ranks is v =
      let few = weights-few rank weights each in
      let (t, lt, wt, it, et) = (is (at_least v weights) (length-at_least v weights)).reached in
      let s = size_below_length t in
      let l = length-at_least v weights in
      omega (arith, ints, few, lt, et, s, l)

  total-fits : (j places : ℕ) (total : ℤ) → AreWeighed rank weights levels j places total
      → (pos 0 ≤ℤ (total +ℤ pos (256 * 10 ^ 33))) × (total ≤ℤ pos (256 * 10 ^ 33))
  total-fits j places total h =
      let ranked = ranked-by rank weights are-weights in
      let g : ℤ → ℤ = λ v. pos (ranked.rank (at_least v weights)) in
      let e = h.worth ranked.rank ranked.ranks in
      let few = rank-few ranked.rank ranked.ranks in
      let rest = from-most weights levels j g given are (λ v. omega (arith, ints)) few in
      let all = from-most weights levels 0 g given are (λ v. omega (arith, ints)) few in
      let a = scaled (factor_of rank) (by_levels g (drop j levels)) (factor-low rank)
      (factor-given rank) rest.0 rest.1 in
      let b = scaled (factor_of rank) (by_levels g levels) (factor-low rank) (factor-given rank)
      all.0 all.1 in
      (omega (arith, ints, e, a, b), omega (arith, ints, e, a, b))

  pub weighed-next : (j places more : ℕ) (total x : ℤ) → j < length levels
      → AreWeighed rank weights levels j places total
      → IsLevelWeighed rank weights (get_or levels j (pos 0)) (level_behind levels j) more x
      → IsWeighedOn rank weights levels (j + 1) (places + more) (total +ℤ x)
  weighed-next j places more total x lt h level =
      let v = get_or levels j (pos 0) in
      let keep = at_least v weights in
      let kw = length-at_least v weights in
      let (r, over, is) = level.worth in
      let counts = places-next (λ v. size (at_least v weights)) levels j places lt h.places_are in
      let same = level.places_are in
      let all = all-places weights levels (weights-few rank weights each) given are in
      let places_so : (places + more) + sum
      (map (λ v. size (at_least v weights)) (drop (j + 1) levels)) ≡ sum
      (map (λ v. size (at_least v weights)) levels) = rw same counts in
      let next : AreWeighed rank weights levels (j + 1) (places + more) (total +ℤ x) = record {
        places_are = places_so;
        worth = λ ranks ranks_are.
            let known = greatest-of-rank (length weights) (IsIndependentIn rank) keep (ranks keep)
            kw (ranks_are keep kw) in
            let there : IsGreatestWeight (IsIndependentIn rank) (ones (length weights)) keep
            r = subst (λ n. IsGreatestWeight (IsIndependentIn rank) (ones n) keep r) kw over in
            let one : r ≡ pos (ranks keep) = greatest-one (IsIndependentIn rank)
            (ones (length weights)) keep r (pos (ranks keep)) there known in
            let after = size-next (factor_of rank) (λ v. pos (ranks (at_least v weights))) levels j
            total lt (h.worth ranks ranks_are) in
            let e : x ≡ ((factor_of rank *ℤ (v -ℤ level_behind levels j)) *ℤ pos (ranks keep)) = is
            ∙ ap (λ a. (factor_of rank *ℤ (v -ℤ level_behind levels j)) *ℤ a) one in
            rw e after;
      } in
      let bound = total-fits (j + 1) (places + more) (total +ℤ x) next in
      record { few = omega (arith, places_so, all); low = bound.0; high = bound.1; next = next }

  -- all levels bring what the line does
  pub weighed-all : (j places : ℕ) (total : ℤ) → length levels ≤ j
      → AreWeighed rank weights levels j places total → Brings rank (Some weights) places total
  weighed-all j places total past h =
      let h_weights = are-weights in
      let ranked = ranked-by rank weights h_weights in
      let whole = whole_set (length weights) in
      let none = drop_all j levels past in
      let count : places + sum (map (λ v. size (at_least v weights)) []) ≡ sum
      (map (λ v. size (at_least v weights)) levels) = rw none at h.places_are in
      let worth : (total +ℤ (factor_of rank *ℤ by_levels
      (λ v. pos (ranked.rank (at_least v weights))) []))
      ≡ (factor_of rank *ℤ by_levels (λ v. pos (ranked.rank (at_least v weights))) levels) =
      rw none at (h.worth ranked.rank ranked.ranks) in
      let z = *ℤ-zero (factor_of rank) in
      let same : by_levels (λ v. pos (ranked.rank (at_least v weights))) levels ≡ by_levels
      (rank_from rank weights each ranked whole) levels =
      by_levels-same (λ v. pos (ranked.rank (at_least v weights)))
      (rank_from rank weights each ranked whole) levels
      (λ v c. ap (λ s. pos (ranked.rank s))
      (sym (ap (λ n. intersection (whole_set n) (at_least v weights))
      (sym (length-at_least v weights)) ∙ whole_with (at_least v weights)))) in
      let first : total ≡ (factor_of rank *ℤ by_levels (λ v. pos (ranked.rank (at_least v weights)))
      levels) = omega (arith, ints, worth, z) in (
        (levels, are, omega (arith, count)),
        (
          by_levels (rank_from rank weights each ranked whole) levels,
          levels-weigh rank weights h_weights levels are whole
              (length-replicate (length weights) _),
          first ∙ ap (λ a. factor_of rank *ℤ a) same,
        ),
      )
