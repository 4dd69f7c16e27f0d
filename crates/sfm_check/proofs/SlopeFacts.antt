-- What a section tells of its slope, as it is kept, and whether the slope is the next one.
use Rattle.std.proofs.Common.{◌≡◌, ◌≢◌, ⊎_elim, ℕ, zero, suc, ◌+◌, ◌-◌, ◌<◌, ◌≤◌, Bool, true, List, [], length, map, get_or, ℤ, pos, refl, sym, ap, ◌∙◌, arith, subst}
use Rattle.std.proofs.lemmas.List.{length-map, length-replicate, get_or-map}
use Rattle.sfm_spec.specs.Sets.{empty_set, size, whole_set}
use Rattle.sfm_spec.specs.Families.{Meaning, IsLeast, IsGreatest, sized_shift}
use Rattle.sfm_spec.specs.Laws.{Mark, no_mark}
use Rattle.sfm_spec.specs.Search.{mark_at}
use Rattle.sfm_spec.proofs.Nest.{same_least, same_greatest}
use Rattle.sfm_spec.proofs.Search.{within_whole}
use Rattle.sfm_spec.proofs.Sizes.{size_grows, size-whole}
use Rattle.sfm_law.specs.declared.breaks.Break.{Break as Found}
use Rattle.sfm_extreme.specs.declared.extremes.Proved.{Proved}
use Rattle.sfm_cert.specs.Answer.{Answer, Break, Form, mark_of}
use Rattle.sfm_cert.specs.Form.{IsFormed}
use Rattle.sfm_cert.specs.Solved.{break_of}
use Rattle.sfm_check.specs.Truth.{Section, section_at, section_of, sections_of}
use Rattle.sfm_check.specs.Before.{members_before}
use Rattle.sfm_check.specs.Findings.{AreTold, IsNextSlope, IsToldOf, set_before}
use Rattle.sfm_check.proofs.Forming.{section_break}

-- what is known of slope k
pub record SlopeAt (terms : List Meaning) (n : ℕ) (sizes : List ℤ) (a : Answer) (k : ℕ) (b : Found)
    (p : Proved) : Type 0 where
  pub mark : mark_at (map mark_of a.breaks) k ≡ mark_of (break_of b)
  pub least : IsLeast terms n b.slope.den (sized_shift sizes b.slope.num) p.least
  pub greatest : IsGreatest terms n b.slope.den (sized_shift sizes b.slope.num) p.greatest
  pub places : length b.set ≡ n

pub slope_at : (terms : List Meaning) (sizes : List ℤ) (form : Form) (a : Answer)
    (items : List Found) (found : List Proved) (k : ℕ) (b : Found) (p : Proved) → IsFormed form a
    → AreTold terms (length form.names) sizes a found → a.breaks ≡ map break_of items
    → k < length items → b ≡ get_or items k b → p ≡ get_or found (k + 1) p
    → SlopeAt terms (length form.names) sizes a k b p
slope_at terms sizes form a items found k b p formed told kept l eb ep = record {
  mark = get_or-map mark_of a.breaks k (break_of b) no_mark lb ∙ ap mark_of at_break;
  least = here.least;
  greatest = here.greatest;
  places = subst (λ (z : Break). length z.members ≡ length form.names) at_break
      (formed.breaks k (break_of b) lb).members.places;
} where
  lb : k < length a.breaks
  lb = let c = ap length kept in omega (arith, l, c, length-map items break_of)

  at_break : get_or a.breaks k (break_of b) ≡ break_of b
  at_break = ap (λ z. get_or z k (break_of b)) kept
      ∙ (get_or-map break_of items k b (break_of b) l ∙ ap break_of (sym eb))

  ls : k + 1 < length (sections_of a)
  ls = omega (arith, lb, length-map a.breaks section_of)

  is : section_at a (k + 1) ≡ section_of (break_of b)
  is = let back : k + 1 - 1 ≡ k = omega arith in
      section_break a (k + 1) (break_of b) (λ z. omega (arith, z)) ls
      (sym (ap (λ j. get_or a.breaks j (break_of b)) back ∙ at_break))

  here : IsToldOf terms (length form.names) sizes (section_of (break_of b)) p
  here = subst (λ (z : Section). IsToldOf terms (length form.names) sizes z p) is
      (subst (λ (z : Proved). IsToldOf terms (length form.names) sizes (section_at a (k + 1)) z)
      (sym ep) (told.each (k + 1) p ls))

-- the set before, as it is kept
pub before_same : (n : ℕ) (first : List Bool) (items : List Found) (k : ℕ) → first ≡ empty_set n
    → members_before first items k ≡ set_before (empty_set n) (map mark_of (map break_of items)) k
before_same n first items zero e = e
before_same n first items (suc k) e = refl

-- a set of all places
pub whole_by_size : (n : ℕ) (s : List Bool) → length s ≡ n → size s ≡ n → s ≡ whole_set n
whole_by_size n s ls e =
    let w = size-whole n in
    ⊎_elim (λ same. same) (λ l. absurd (omega (arith, l, e, w)))
    (size_grows s (whole_set n) (ls ∙ sym (length-replicate n true)) (within_whole n s ls))

pub size_of_whole : (n : ℕ) (s : List Bool) → s ≡ whole_set n → size s ≡ n
size_of_whole n s e = ap size e ∙ size-whole n

-- the set before has as many places as there are elements
pub before_places : (form : Form) (a : Answer) (items : List Found) (first : List Bool) (k : ℕ)
    → IsFormed form a → a.breaks ≡ map break_of items → first ≡ empty_set (length form.names)
    → k ≤ length items
    → length (members_before first items k) ≡ length form.names
before_places form a items first zero formed kept e l = ap length e
    ∙ length-replicate (length form.names) _
before_places form a items first (suc k) formed kept e l =
    let d : Break = record { num = pos 0; den = pos 1; members = []; bases = [] } in
    let lk : k < length a.breaks = let c = ap length
    kept in omega (arith, l, c, length-map items break_of) in
    let f = (formed.breaks k d lk).members.places in
    let same : mark_at (map mark_of (map break_of items)) k ≡ mark_of
    (get_or a.breaks k d) = ap (λ z. mark_at (map mark_of z) k) (sym kept)
    ∙ get_or-map mark_of a.breaks k d no_mark lk in
    ap (λ (z : Mark). length z.members) same ∙ f

-- slope k, and the set before it
pub record IsJudged (terms : List Meaning) (n : ℕ) (sizes : List ℤ) (a : Answer) (k : ℕ) (b : Found)
    (p : Proved) (before : List Bool) : Type 0 where
  pub at : SlopeAt terms n sizes a k b p
  pub is : before ≡ set_before (empty_set n) (map mark_of a.breaks) k
  pub places : length before ≡ n

pub judged : (terms : List Meaning) (sizes : List ℤ) (form : Form) (a : Answer) (items : List Found)
    (found : List Proved) (k : ℕ) (b : Found) (p : Proved) (first before : List Bool)
    → IsFormed form a → AreTold terms (length form.names) sizes a found
    → a.breaks ≡ map break_of items → k < length items → b ≡ get_or items k b
    → p ≡ get_or found (k + 1) p → first ≡ empty_set (length form.names)
    → before ≡ members_before first items k
    → IsJudged terms (length form.names) sizes a k b p before
judged terms sizes form a items found k b p first before formed told kept l eb ep empty shown =
    record {
      at = slope_at terms sizes form a items found k b p formed told kept l eb ep;
      is = shown ∙ (before_same (length form.names) first items k empty
          ∙ ap (λ z. set_before (empty_set (length form.names)) (map mark_of z) k) (sym kept));
      places = ap length shown ∙ before_places form a items first k formed kept empty
          (omega (arith, l));
    }

module _ {terms : List Meaning} {n : ℕ} {sizes : List ℤ} {a : Answer} {k : ℕ} {b : Found}
    {p : Proved} {before : List Bool} (h : IsJudged terms n sizes a k b p before) where
  -- where it has that set as its least minimiser and a larger one as its greatest it is the next
  -- one
  pub next_by : p.least ≡ before → p.greatest ≡ b.set → b.set ≢ before
      → IsNextSlope terms n sizes (set_before (empty_set n) (map mark_of a.breaks) k)
      (mark_at (map mark_of a.breaks) k)
  next_by least greatest other =
      subst (λ s. IsNextSlope terms n sizes s (mark_at (map mark_of a.breaks) k)) h.is
      (subst (IsNextSlope terms n sizes before) (sym h.at.mark) (record {
        least = low;
        greatest = high;
        larger = ⊎_elim (λ e. absurd (other (sym e))) (λ l. l)
            (size_grows before b.set (low.minimiser.places ∙ sym high.minimiser.places)
            (low.within b.set high.minimiser));
      })) where
        low : IsLeast terms n b.slope.den (sized_shift sizes b.slope.num) before
        low = subst (IsLeast terms n b.slope.den (sized_shift sizes b.slope.num)) least h.at.least

        high : IsGreatest terms n b.slope.den (sized_shift sizes b.slope.num) b.set
        high = subst (IsGreatest terms n b.slope.den (sized_shift sizes b.slope.num)) greatest
            h.at.greatest

  pub by_next : IsNextSlope terms n sizes (set_before (empty_set n) (map mark_of a.breaks) k)
      (mark_at (map mark_of a.breaks) k) → (p.least ≡ before) × (p.greatest ≡ b.set)
      × (b.set ≢ before)
  by_next next =
      let x : IsNextSlope terms n sizes before
      (mark_of (break_of b)) = subst (IsNextSlope terms n sizes before) h.at.mark
      (subst (λ s. IsNextSlope terms n sizes s (mark_at (map mark_of a.breaks) k)) (sym h.is)
      next) in
      let l = x.larger in (
        same_least terms n b.slope.den (sized_shift sizes b.slope.num) p.least before h.at.least
            x.least,
        same_greatest terms n b.slope.den (sized_shift sizes b.slope.num) p.greatest b.set
            h.at.greatest x.greatest,
        (λ e. let f = ap size e in omega (arith, l, f)),
      )
