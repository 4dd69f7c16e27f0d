-- The parts that the calls make: a rank over kept elements, and the number of a layer.
use Rattle.std.proofs.Common.{◌≡◌, ◌≢◌, ◌⊎◌, inl, inr, ℕ, zero, suc, ◌<◌, ◌^◌, Bool, List, length, get_or, ℤ, pos, negsuc, ◌-ℤ◌, ◌*ℤ◌, ◌≤ℤ◌, refl, sym, subst, ◌∙◌, arith}
use Rattle.std.specs.List.{All}
use Rattle.std.specs.Int.{int_min}
use Rattle.std.proofs.Math.IntN.{*ℤ-zero}
use Rattle.std.proofs.lemmas.Int.{ints, clamps}
use Rattle.std.proofs.lemmas.List.{length-replicate}
use Rattle.std.proofs.lemmas.List.Elements.{All-weaker}
use Rattle.std.proofs.Common.{Result, IfOk}
use Rattle.std.proofs.lemmas.Result.{IfOk-weaker}
use Rattle.sfm_spec.specs.Bounds.{IsGiven}
use Rattle.sfm_spec.specs.Sets.{size, whole_set}
use Rattle.sfm_spec.specs.Kinds.{IsRank}
use Rattle.sfm_spec.specs.Laws.{ones}
use Rattle.sfm_spec.proofs.Ones.{sum-ones}
use Rattle.sfm_spec.proofs.Scaled.{times-mono}
use Rattle.sfm_layers.specs.Weights.{IsGreatestWeight, AreLevels, at_least}
use Rattle.sfm_layers.proofs.Ones.{greatest-of-rank}
use Rattle.sfm_concave.proofs.UniformRanks.{IsWithinCap, uniform_rank, uniform-ranks, uniform-spread}
use Rattle.sfm_laminar.proofs.Cut.{laminar-spread}
use Rattle.sfm_graphic.proofs.Restricted.{graphic-spread}
use Rattle.sfm_matroid.proofs.Restricted.{transversal-spread}
use Rattle.sfm_kind.specs.Meanings.{kind_places, IsIndependentIn, factor_of}
use Rattle.sfm_kind.specs.Layers.{IsWeight, IsRankKind}
use Rattle.sfm_kind.specs.Restricted.{IsKeptPart, IsRestricted, IsRankOver, IsLayerFactor, level_behind}
use Rattle.sfm_kind.specs.declared.kind.Kind.{Kind}
use Rattle.sfm_kind.specs.declared.kind.Kind.TheVariants.{Weight, Cut, Cover, Need, Table, Concave, Uniform, Laminar, Graphic, Transversal}
use Rattle.sfm_kind.proofs.Brought.{levels-weigh}
use Rattle.sfm_kind.proofs.Stepped.{step-is, step-small}

-- ---- how many kept elements are independent

pub uniform-over : (cap : ℤ) (keep : List Bool) → pos 0 ≤ℤ cap
    → IsGreatestWeight (IsWithinCap cap) (ones (length keep)) keep (int_min (pos (size keep)) cap)
uniform-over cap keep low =
    let is : pos (uniform_rank cap keep) ≡ int_min (pos (size keep))
    cap = omega (arith, ints, clamps, low) in
    subst (λ r. IsGreatestWeight (IsWithinCap cap) (ones (length keep)) keep r) is
    (greatest-of-rank (length keep) (IsWithinCap cap) keep (uniform_rank cap keep) refl
    (uniform-ranks (length keep) cap low keep refl))

pub rank-over : (IsIndependent : List Bool → Type 0) (keep : List Bool) (r : ℤ) → (n : ℕ)
    × (r ≡ pos n) × IsRank IsIndependent keep n
    → IsGreatestWeight IsIndependent (ones (length keep)) keep r
rank-over IsIndependent keep r (n, same, is) =
    subst (λ a. IsGreatestWeight IsIndependent (ones (length keep)) keep a) (sym same)
    (greatest-of-rank (length keep) IsIndependent keep n refl is)

pub ranks-over : (IsIndependent : List Bool → Type 0) (keep : List Bool) {E : Type 0}
    (result : Result ℤ E) → IfOk result (λ r. (n : ℕ) × (r ≡ pos n) × IsRank IsIndependent keep n)
    → IfOk result (λ r. IsGreatestWeight IsIndependent (ones (length keep)) keep r)
ranks-over IsIndependent keep result h =
    IfOk-weaker result (λ r. (n : ℕ) × (r ≡ pos n) × IsRank IsIndependent keep n)
    (λ r. IsGreatestWeight IsIndependent (ones (length keep)) keep r)
    (λ r is. rank-over IsIndependent keep r is) h

pub over-low : (rank : Kind) (keep : List Bool) (r : ℤ) → IsRankOver rank keep r → pos 0 ≤ℤ r
over-low rank keep r h =
    let (t, lt, wt, it, et) = h.reached in
    let sum = sum-ones (length keep) t lt in
    omega (arith, ints, et, sum)

-- ---- a part by its data

pub part-restricted : (rank : Kind) (keep : List Bool) (w : ℤ) (part : Kind)
    → length keep ≡ length (kind_places rank) → IsKeptPart rank keep w part
    → IsRestricted rank keep w part
part-restricted (Uniform term) keep w (Uniform part) each (places, number, same) =
    record {
      kind = tt;
      places = places;
      factor = number;
      alike = λ u lu. rw same (uniform-spread term.cap keep u lu);
    }
part-restricted (Laminar term) keep w (Laminar part) each (places, number, same) =
    record {
      kind = tt;
      places = places;
      factor = number;
      alike = λ u lu. rw same (laminar-spread (length term.places) term.groups keep u term.grouped);
    }
part-restricted (Graphic term) keep w (Graphic part) each (places, number, same) =
    record {
      kind = tt;
      places = places;
      factor = number;
      alike = λ u lu. rw same (graphic-spread keep term.ends (each ∙ sym term.same_count) u lu);
    }
part-restricted (Transversal term) keep w (Transversal part) each (places, number, same) =
    record {
      kind = tt;
      places = places;
      factor = number;
      alike = λ u lu. rw same (transversal-spread keep term.entries (each ∙ sym term.same_count) u
          lu);
    }
part-restricted _ keep w _ each h = absurd h

-- ---- what each element of a layer counts

pub factor-low : (kind : Kind) → pos 0 ≤ℤ factor_of kind
factor-low (Uniform term) = term.low
factor-low (Laminar term) = term.low
factor-low (Graphic term) = term.low
factor-low (Transversal term) = term.low
factor-low (Weight term) = omega (arith, ints)
factor-low (Cut term) = omega (arith, ints)
factor-low (Cover term) = omega (arith, ints)
factor-low (Need term) = omega (arith, ints)
factor-low (Table term) = omega (arith, ints)
factor-low (Concave term) = omega (arith, ints)

pub record IsNumber (rank : Kind) (keep : List Bool) (step w : ℤ) : Type 0 where
  pub factor : IsLayerFactor rank keep step w
  pub low : pos 0 ≤ℤ w
  pub given : IsGiven w

pub layer-number : (rank : Kind) (weights levels : List ℤ) (j : ℕ) (r w : ℤ) → IsRankKind rank
    → length weights ≡ length (kind_places rank) → All (IsWeight (10 ^ 15)) weights
    → AreLevels weights levels → j < length levels
    → ((a : ℤ) → IsGreatestWeight (IsIndependentIn rank) weights (whole_set (length weights)) a
    → (factor_of rank *ℤ a) ≤ℤ pos (10 ^ 18))
    → IsRankOver rank (at_least (get_or levels j (pos 0)) weights) r
    → ((r ≡ pos 0) × (w ≡ pos 0))
    ⊎ ((r ≢ pos 0)
    × (w ≡ (factor_of rank *ℤ (get_or levels j (pos 0) -ℤ level_behind levels j))))
    → IsNumber rank (at_least (get_or levels j (pos 0)) weights)
    (get_or levels j (pos 0) -ℤ level_behind levels j) w
layer-number rank weights levels j r w kind each given are lt small over (inl (none, counts)) =
    record {
      factor = inr (
        counts,
        subst (λ a. IsRankOver rank (at_least (get_or levels j (pos 0)) weights) a)
            none over,
      );
      low = omega (arith, ints, counts);
      given = record { low = omega (arith, ints, counts); high = omega (arith, ints, counts) };
    }
layer-number rank weights levels j r w kind each given are lt small over (inr (some, counts)) =
    let v = get_or levels j (pos 0) in
    let step = v -ℤ level_behind levels j in
    let is = step-is weights levels j given are lt in
    let positive : All (λ a. pos 1 ≤ℤ a) weights = All-weaker (IsWeight (10 ^ 15)) (λ a. pos 1 ≤ℤ a)
    (λ a h. h.0) weights given in
    let low = over-low rank (at_least v weights) r over in
    let one : pos 1 ≤ℤ r = above r low some in
    let greatest = levels-weigh rank weights
    (record { kind = kind; each = each; positive = positive }) levels are
    (whole_set (length weights)) (length-replicate (length weights) _) in
    let few = step-small rank weights v step r _ positive (factor-low rank) is.step_high over one
    greatest (small _ greatest) in
    let step_low = is.step_low in
    let m = times-mono (factor_of rank) (pos 0) step (factor-low rank)
    (omega (arith, ints, step_low)) in
    let z = *ℤ-zero (factor_of rank) in
    record {
      factor = inl counts;
      low = omega (arith, ints, counts, m, z);
      given = record {
        low = omega (arith, ints, counts, m, z);
        high = omega (arith, ints, counts, few);
      };
    }
  where
    above : (r : ℤ) → pos 0 ≤ℤ r → r ≢ pos 0 → pos 1 ≤ℤ r
    above (pos zero) low ne = absurd (ne refl)
    above (pos (suc n)) low ne = omega (arith, ints)
    above (negsuc n) low ne = absurd (omega (arith, ints, low))
