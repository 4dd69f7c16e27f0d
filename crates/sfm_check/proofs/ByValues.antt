-- Slopes by values. A set that is worth the sum of min(z, 0) at bases is a minimiser, as no allowed
-- set is worth less, and the bases prove. Where the set before each slope and its own are such
-- sets, slopes rise and sets grow, each slope is the next one: the set before lies within each
-- minimiser, as it is empty or a minimiser at the slope before; and the slope's own has each
-- within, as it is the whole set or a minimiser at the slope behind.
use Rattle.std.proofs.Common.{◌≡◌, ◌≢◌, ⊎_elim, ℕ, zero, suc, ◌<◌, Bool, List, [], length, map, get_or, ℤ, pos, ◌-ℤ◌, ◌*ℤ◌, ◌≤ℤ◌, refl, sym, ap, ◌∙◌, arith, subst}
use Rattle.std.proofs.lemmas.Bool.{cases_lt}
use Rattle.std.proofs.lemmas.List.{length-map, length-replicate, get_or-map}
use Rattle.sfm_spec.specs.Sets.{empty_set, whole_set, IsWithin}
use Rattle.sfm_spec.specs.Slopes.{IsLowerSlope}
use Rattle.sfm_spec.specs.Families.{Meaning, AreBases, AreTerms, IsMinimiser, Prove, deficit, rest_at, shifted_at, sized_shift, sum_at}
use Rattle.sfm_spec.specs.Laws.{Mark, no_mark}
use Rattle.sfm_spec.specs.Search.{mark_at}
use Rattle.sfm_spec.proofs.Duality.{proved_by, reached_back}
use Rattle.sfm_spec.proofs.Lattice.{none_in_empty}
use Rattle.sfm_spec.proofs.Nest.{shifted-sized, slopes_nest}
use Rattle.sfm_sizes.specs.Sizes.{AreElementSizes}
use Rattle.sfm_spec.proofs.Search.{within_whole}
use Rattle.sfm_cert.specs.Answer.{Answer, Break, Form, mark_of}
use Rattle.sfm_cert.specs.Form.{IsFormed}
use Rattle.sfm_check.specs.Truth.{Section, IsProvedSection, section_at, section_of, sections_of}
use Rattle.sfm_check.specs.Findings.{IsFullChain, IsNextSlope, set_before, no_section}
use Rattle.sfm_check.specs.Values.{AreRightSlopes, Attains, IsStep, IsStepAt, IsWorth}
use Rattle.sfm_check.specs.declared.worth.Worth.{Worth}

no_break : Break
no_break = record { num = pos 0; den = pos 1; members = []; bases = [] }

module _ (terms : List Meaning) (n : ℕ) (sizes : List ℤ) (fit : AreTerms n terms)
    (sized : AreElementSizes n sizes) where
  -- a set that attains the bound of the bases
  pub minimiser_by : (b : Break) (s : List Bool) (w : Worth) → AreBases b.den terms b.bases
      → length s ≡ n → IsWorth terms sizes s w → Attains terms n sizes b w
      → IsMinimiser terms n b.den (sized_shift sizes b.num) s
      × Prove terms n b.den (sized_shift sizes b.num) b.bases
  minimiser_by b s w bases places h attains =
      let one = shifted-sized terms sizes b.num b.den s in
      let by = ap (λ z. b.den *ℤ z -ℤ b.num *ℤ w.weight) h.sum
      ∙ ap (λ z. b.den *ℤ sum_at terms s -ℤ b.num *ℤ z) h.weight in
      let same : shifted_at terms b.den (sized_shift sizes b.num) s ≡ deficit n
      (rest_at terms b.bases (sized_shift sizes b.num)) = one ∙ (sym by ∙ attains) in
      let (signed, tight) = reached_back terms b.bases n b.den (sized_shift sizes b.num) fit bases s
      places h.allowed same in
      proved_by terms b.bases n b.den (sized_shift sizes b.num) fit bases s places signed tight

  -- minimisers at a lower slope lie within those at a higher one
  pub nested : (p q p' q' : ℤ) (s t : List Bool) → pos 1 ≤ℤ q → pos 1 ≤ℤ q' → IsLowerSlope p q p' q'
      → IsMinimiser terms n q (sized_shift sizes p) s
      → IsMinimiser terms n q' (sized_shift sizes p') t → IsWithin s t
  nested p q p' q' s t lq lq' less hs ht =
      slopes_nest terms n sizes fit sized.places sized.positive p q p' q' s t lq lq' less hs ht

  module _ (form : Form) (a : Answer) (names : length form.names ≡ n) (formed : IsFormed form a)
      (bases : (s : ℕ) → s < length (sections_of a)
      → AreBases (section_at a s).den terms (section_at a s).bases)
      (steps : (k : ℕ) → k < length a.breaks → IsStepAt terms n sizes a k) where
    at : ℕ → Break
    at k = get_or a.breaks k no_break

    before : ℕ → List Bool
    before k = set_before (empty_set n) (map mark_of a.breaks) k

    mark_is : (k : ℕ) → k < length a.breaks → mark_at (map mark_of a.breaks) k ≡ mark_of (at k)
    unfolding at
    mark_is k l = get_or-map mark_of a.breaks k no_break no_mark l

    -- behind slope k stands its set
    behind : (k : ℕ) → k < length a.breaks → before (suc k) ≡ (at k).members
    unfolding before
    behind k l = ap (λ (m : Mark). m.members) (mark_is k l)

    places : (k : ℕ) → k < length a.breaks → length (at k).members ≡ n
    unfolding at
    places k l = (formed.breaks k no_break l).members.places ∙ names

    before_places : (k : ℕ) → k < length a.breaks → length (before k) ≡ n
    unfolding before
    before_places zero l = length-replicate n _
    before_places (suc k) l = let lk : k < length a.breaks = omega (arith, l) in ap length
        (behind k lk) ∙ places k lk

    positive : (k : ℕ) → k < length a.breaks → pos 1 ≤ℤ (at k).den
    unfolding at
    positive k l = (formed.breaks k no_break l).factor.low

    section_is : (k : ℕ) → k < length a.breaks → section_at a (suc k) ≡ section_of (at k)
    unfolding at
    section_is k l = get_or-map section_of a.breaks k no_break no_section l

    rows : (k : ℕ) → k < length a.breaks → AreBases (at k).den terms (at k).bases
    rows k l = subst (λ (z : Section). AreBases z.den terms z.bases) (section_is k l)
        (bases (suc k) (omega (arith, l, length-map a.breaks section_of)))

    step : (k : ℕ) → k < length a.breaks → IsStep terms n sizes (before k) (at k)
    unfolding before at
    step k l = (steps k l).step no_break

    low : (k : ℕ) → k < length a.breaks
        → IsMinimiser terms n (at k).den (sized_shift sizes (at k).num) (before k)
    low k l = let s = step k l in (minimiser_by (at k) (before k) s.lower (rows k l)
        (before_places k l) s.lower_is s.lower_attains).0

    high : (k : ℕ) → k < length a.breaks
        → IsMinimiser terms n (at k).den (sized_shift sizes (at k).num) (at k).members
    high k l = let s = step k l in (minimiser_by (at k) (at k).members s.higher (rows k l)
        (places k l) s.higher_is s.higher_attains).0

    proves : (k : ℕ) → k < length a.breaks → Prove terms n (at k).den (sized_shift sizes (at k).num)
        (at k).bases
    proves k l = let s = step k l in (minimiser_by (at k) (at k).members s.higher (rows k l)
        (places k l) s.higher_is s.higher_attains).1

    rises : (k : ℕ) → suc k < length a.breaks
        → IsLowerSlope (at k).num (at k).den (at (suc k)).num (at (suc k)).den
    unfolding at
    rises k l = (steps (suc k) l).ascends k no_break refl

    within : (k : ℕ) (t : List Bool) → k < length a.breaks
        → IsMinimiser terms n (at k).den (sized_shift sizes (at k).num) t → IsWithin (before k) t
    unfolding before
    within zero t l ht = λ e h. absurd (none_in_empty n e h)
    within (suc k) t l ht =
        let lk : k < length a.breaks = omega (arith, l) in
        subst (λ z. IsWithin z t) (sym (behind k lk))
        (nested (at k).num (at k).den (at (suc k)).num (at (suc k)).den (at k).members t
        (positive k lk) (positive (suc k) l) (rises k l) (high k lk) ht)

    module _ (ends : set_before (empty_set n) (map mark_of a.breaks) (length a.breaks) ≡ whole_set
        n) where
      has_within : (k : ℕ) (t : List Bool) → k < length a.breaks
          → IsMinimiser terms n (at k).den (sized_shift sizes (at k).num) t
          → IsWithin t (at k).members
      unfolding before
      has_within k t l ht = ⊎_elim
          (λ more. subst (IsWithin t) (behind k l)
          (nested (at k).num (at k).den (at (suc k)).num (at (suc k)).den t (before (suc k))
          (positive k l) (positive (suc k) more) (rises k more) ht (low (suc k) more)))
          (λ last.
          let is : length a.breaks ≡ suc k = omega (arith, l, last) in
          let whole : (at k).members ≡ whole_set n = sym (behind k l)
          ∙ (ap before (sym is) ∙ ends) in
          subst (IsWithin t) (sym whole) (within_whole n t ht.places))
          (cases_lt (suc k) (length a.breaks))

      next : (k : ℕ) → k < length a.breaks → IsNextSlope terms n sizes (before k) (mark_of (at k))
      next k l =
          let s = step k l in
          let grows = s.larger in
          let from = s.lower_is.size in
          let to = s.higher_is.size in
          record {
            least = record { minimiser = low k l; within = λ t ht. within k t l ht };
            greatest = record { minimiser = high k l; within = λ t ht. has_within k t l ht };
            larger = omega (arith, grows, from, to);
          }

      chain : IsFullChain terms n sizes (map mark_of a.breaks)
      unfolding before
      chain = record {
        each = λ k l.
            let lk : k < length a.breaks = omega (arith, l, length-map a.breaks mark_of) in
            subst (λ (m : Mark). IsNextSlope terms n sizes (before k) m) (sym (mark_is k lk))
            (next k lk);
        ends = ap before (length-map a.breaks mark_of) ∙ ends;
      }

      proved : (s : ℕ) → s ≢ 0 → s < length (sections_of a)
          → IsProvedSection terms n sizes (section_at a s)
      proved zero ne l = absurd (ne refl)
      proved (suc k) ne l =
          let lk : k < length a.breaks = omega (arith, l, length-map a.breaks section_of) in
          subst (λ (z : Section). IsProvedSection terms n sizes z) (sym (section_is k lk))
          (record { bases = rows k lk; proves = proves k lk })

      pub slopes_right : AreRightSlopes terms n sizes a
      slopes_right = record { chain = chain; proved = proved }
