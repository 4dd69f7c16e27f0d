-- The minimum at 0/1 by slopes that are right. The set behind the slopes below 0 is empty or a
-- minimiser at a smaller slope, so it lies within each minimiser; the set before the slopes above 0
-- is the whole ground or a minimiser at a greater slope, so it has each within. Where the two are
-- one, no place is free, and there is no block.
use Rattle.std.proofs.Common.{◌≡◌, ℕ, zero, suc, ◌<◌, Bool, List, [], length, map, ℤ, pos, refl, sym, ap, ◌∙◌, arith, subst, ⊎_elim}
use Rattle.std.proofs.lemmas.Bool.{cases_lt}
use Rattle.std.proofs.lemmas.Int.{ints}
use Rattle.sfm_spec.specs.Sets.{Has, empty_set, IsWithin}
use Rattle.sfm_spec.specs.Blocks.{AreBlocks, IsFree}
use Rattle.sfm_spec.specs.Families.{Meaning, AreBases, AreTerms, IsGreatest, IsLeast, IsMinimiser, Prove, deficit, even_shift, rest_at, shifted_at, sized_shift, sum_at}
use Rattle.sfm_spec.specs.Laws.{Mark}
use Rattle.sfm_spec.specs.Search.{AreLowest, mark_at}
use Rattle.sfm_spec.proofs.Lattice.{none_in_empty}
use Rattle.sfm_spec.proofs.Nest.{shifted-sized}
use Rattle.sfm_spec.proofs.Search.{within_whole}
use Rattle.sfm_sizes.specs.Sizes.{AreElementSizes}
use Rattle.sfm_sizes.proofs.Sized.{sized-zero}
use Rattle.sfm_cert.specs.Answer.{Answer, Break, mark_of}
use Rattle.sfm_check.specs.Truth.{IsProvedSection, section_at}
use Rattle.sfm_check.specs.Findings.{IsFullChain, set_before}
use Rattle.sfm_check.specs.Values.{Attains, IsWorth}
use Rattle.sfm_check.specs.Zero.{AreBetween, AreWorthLeast, IsCut}
use Rattle.sfm_check.specs.declared.worth.Worth.{Worth}
use Rattle.sfm_check.proofs.ByValues.{minimiser_by, nested}

-- the shift at 0/1 is the same for all sizes
pub zero_shift : (n : ℕ) (sizes : List ℤ) → AreElementSizes n sizes
    → sized_shift sizes (pos 0) ≡ even_shift n (pos 0)
zero_shift n sizes sized = sized-zero sizes ∙ ap (λ k. even_shift k (pos 0)) sized.places

-- the section at 0/1, as a slope
zero_break : Answer → Break
zero_break a = record { num = pos 0; den = pos 1; members = []; bases = a.bases }

module _ (terms : List Meaning) (n : ℕ) (sizes : List ℤ) (fit : AreTerms n terms)
    (sized : AreElementSizes n sizes) where
  -- a set that is worth what the bases at 0/1 bound
  pub minimiser_at_zero : (a : Answer) (s : List Bool) (w : Worth) → AreBases (pos 1) terms a.bases
      → length s ≡ n → IsWorth terms sizes s w
      → w.sum ≡ deficit n (rest_at terms a.bases (sized_shift sizes (pos 0)))
      → IsMinimiser terms n (pos 1) (sized_shift sizes (pos 0)) s
      × Prove terms n (pos 1) (sized_shift sizes (pos 0)) a.bases
  unfolding zero_break
  minimiser_at_zero a s w bases places h e =
      let attains : Attains terms n sizes (zero_break a) w = omega (arith, ints, e) in
      minimiser_by terms n sizes fit sized (zero_break a) s w bases places h attains

  module _ (marks : List Mark) (low : AreLowest marks)
      (chain : IsFullChain terms n sizes marks) where
    within_all : (k : ℕ) (t : List Bool) → IsCut marks (pos 0) k
        → IsMinimiser terms n (pos 1) (sized_shift sizes (pos 0)) t
        → IsWithin (set_before (empty_set n) marks k) t
    within_all zero t cut ht = λ e h. absurd (none_in_empty n e h)
    within_all (suc j) t cut ht =
        let l : j < length marks = let few = cut.few in omega (arith, few) in
        let m = mark_at marks j in
        let less = cut.below j refl in
        nested terms n sizes fit sized m.num m.den (pos 0) (pos 1) m.members t (low j l).positive
        (omega (arith, ints)) (omega (arith, ints, less)) (chain.each j l).greatest.minimiser ht

    has_all : (k : ℕ) (t : List Bool) → IsCut marks (pos 1) k
        → IsMinimiser terms n (pos 1) (sized_shift sizes (pos 0)) t
        → IsWithin t (set_before (empty_set n) marks k)
    has_all k t cut ht = ⊎_elim
        (λ l.
        let m = mark_at marks k in
        let more = cut.above l in
        nested terms n sizes fit sized (pos 0) (pos 1) m.num m.den t
        (set_before (empty_set n) marks k) (omega (arith, ints)) (low k l).positive
        (omega (arith, ints, more)) ht (chain.each k l).least.minimiser)
        (λ ge.
        let few = cut.few in
        let last : length marks ≡ k = omega (arith, ge, few) in
        subst (IsWithin t) (sym (ap (set_before (empty_set n) marks) (sym last) ∙ chain.ends))
        (within_whole n t ht.places))
        (cases_lt k (length marks))

    pub least_at_zero : (k : ℕ) (s : List Bool) → IsCut marks (pos 0) k
        → s ≡ set_before (empty_set n) marks k
        → IsMinimiser terms n (pos 1) (sized_shift sizes (pos 0)) s
        → IsLeast terms n (pos 1) (sized_shift sizes (pos 0)) s
    least_at_zero k s cut is h = record {
      minimiser = h;
      within = λ t ht. subst (λ z. IsWithin z t) (sym is) (within_all k t cut ht);
    }

    pub greatest_at_zero : (k : ℕ) (s : List Bool) → IsCut marks (pos 1) k
        → s ≡ set_before (empty_set n) marks k
        → IsMinimiser terms n (pos 1) (sized_shift sizes (pos 0)) s
        → IsGreatest terms n (pos 1) (sized_shift sizes (pos 0)) s
    greatest_at_zero k s cut is h =
        record { minimiser = h; within = λ t ht. subst (IsWithin t) (sym is) (has_all k t cut ht) }

-- what slopes and values tell of the minimum
pub record IsToldAtZero (terms : List Meaning) (n : ℕ) (sizes : List ℤ) (a : Answer) : Type 0 where
  pub least : IsLeast terms n (pos 1) (sized_shift sizes (pos 0)) a.least
  pub greatest : IsGreatest terms n (pos 1) (sized_shift sizes (pos 0)) a.greatest
  pub value : a.value ≡ shifted_at terms (pos 1) (sized_shift sizes (pos 0)) a.least
  pub proved : IsProvedSection terms n sizes (section_at a 0)

pub told_at_zero : (terms : List Meaning) (n : ℕ) (sizes : List ℤ) (a : Answer) → AreTerms n terms
    → AreElementSizes n sizes → AreBases (pos 1) terms a.bases → length a.least ≡ n
    → length a.greatest ≡ n → AreLowest (map mark_of a.breaks)
    → IsFullChain terms n sizes (map mark_of a.breaks)
    → AreBetween n a → AreWorthLeast terms n sizes a → IsToldAtZero terms n sizes a
told_at_zero terms n sizes a fit sized bases least_places greatest_places low chain between worth =
    let least = minimiser_at_zero terms n sizes fit sized a a.least worth.low bases least_places
    worth.low_is worth.low_attains in
    let greatest = minimiser_at_zero terms n sizes fit sized a a.greatest worth.high bases
    greatest_places worth.high_is worth.high_attains in
    let sum : a.value ≡ sum_at terms a.least = worth.value
    ∙ (sym worth.low_attains ∙ worth.low_is.sum) in
    let shifted = shifted-sized terms sizes (pos 0) (pos 1) a.least in
    record {
      least = least_at_zero terms n sizes fit sized (map mark_of a.breaks) low chain between.low
          a.least between.low_is between.least least.0;
      greatest = greatest_at_zero terms n sizes fit sized (map mark_of a.breaks) low chain
          between.high a.greatest between.high_is between.greatest greatest.0;
      value = omega (arith, ints, sum, shifted);
      proved = record { bases = bases; proves = least.1 };
    }

-- where there is one minimiser alone, there is no block
pub no_blocks : (terms : List Meaning) (n : ℕ) (q : ℤ) (shift : List ℤ) (s t : List Bool)
    → IsLeast terms n q shift s → IsGreatest terms n q shift t → s ≡ t
    → AreBlocks terms n q shift []
no_blocks terms n q shift s t least greatest same = record {
  places = λ i l. absurd (omega (arith, l));
  some = λ i l. absurd (omega (arith, l));
  covers = λ e l. ((λ free. absurd (none e free)), (λ (i, li, h). absurd (omega (arith, li))));
  shared = λ i d e l. absurd (omega (arith, l));
  needed = λ i j d e l. absurd (omega (arith, l));
  numbered = λ i j l. absurd (omega (arith, l));
  ascending = λ i l. absurd (omega (arith, l));
  ordered = λ i j l k. absurd (omega (arith, k));
} where
  none : (e : ℕ) → IsFree terms n q shift e → ⊥
  none e free =
      let (x, hx, has) = free.is_in in
      let (y, hy, has_not) = free.is_out in
      has_not (least.within y hy e (subst (λ z. Has z e) (sym same) (greatest.within x hx e has)))
