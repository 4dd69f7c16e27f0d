-- The slopes of an answer, as the program keeps them.
use Rattle.std.proofs.Common.{◌≡◌, ◌≢◌, ℕ, ◌+◌, ◌-◌, ◌<◌, Bool, List, length, map, get_or, ℤ, sym, ap, ◌∙◌, arith, subst, add-one}
use Rattle.std.proofs.lemmas.List.{length-map, get_or-map}
use Rattle.sfm_spec.specs.Sets.{empty_set}
use Rattle.sfm_spec.specs.Slopes.{IsLowerSlope}
use Rattle.sfm_spec.specs.Families.{Meaning}
use Rattle.sfm_spec.specs.Laws.{Mark, no_mark}
use Rattle.sfm_spec.specs.Search.{mark_at}
use Rattle.sfm_law.specs.declared.breaks.Break.{Break as Found}
use Rattle.sfm_cert.specs.declared.solved.Solved.{Solved}
use Rattle.sfm_cert.specs.Answer.{Answer, Break, Form, mark_of}
use Rattle.sfm_cert.specs.Form.{IsFormed, IsFormedBreak}
use Rattle.sfm_cert.specs.Solved.{answer_of, break_of}
use Rattle.sfm_check.specs.Findings.{set_before}
use Rattle.sfm_check.specs.Values.{Ascends, Attains, IsStep, IsStepAt, IsWorth}
use Rattle.sfm_check.specs.declared.worth.Worth.{Worth}

pub kept_at : (items : List Found) (k : ℕ) (b : Found) (d : Break) → k < length items
    → b ≡ get_or items k b → get_or (map break_of items) k d ≡ break_of b
kept_at items k b d l e = get_or-map break_of items k b d l ∙ ap break_of (sym e)

-- it is of the right form in an answer that is
pub formed_at : (form : Form) (a : Answer) (items : List Found) (k : ℕ) (b : Found)
    → a.breaks ≡ map break_of items → k < length items → b ≡ get_or items k b → IsFormed form a
    → IsFormedBreak (length form.names) form.widths (break_of b)
formed_at form a items k b kept l e f =
    let c = ap length kept in
    let lb : k < length a.breaks = omega (arith, l, c, length-map items break_of) in
    subst (λ (z : Break). IsFormedBreak (length form.names) form.widths z)
    (ap (λ z. get_or z k (break_of b)) kept ∙ kept_at items k b (break_of b) l e)
    (f.breaks k (break_of b) lb)

-- slope k, with its set
pub mark_kept : (items : List Found) (k : ℕ) (b : Found) → k < length items → b ≡ get_or items k b
    → mark_at (map mark_of (map break_of items)) k ≡ mark_of (break_of b)
mark_kept items k b l e =
    let lb : k < length (map break_of items) = omega (arith, l, length-map items break_of) in
    get_or-map mark_of (map break_of items) k (break_of b) no_mark lb
    ∙ ap mark_of (kept_at items k b (break_of b) l e)

-- behind slope k stands its set
pub behind_at : (first : List Bool) (items : List Found) (k : ℕ) (b : Found) → k < length items
    → b ≡ get_or items k b → set_before first (map mark_of (map break_of items)) (k + 1) ≡ b.set
behind_at first items k b l e =
    rw (add-one) (ap (λ (z : Mark). z.members) (mark_kept items k b l e))

-- a slope behind another that is lower
pub ascends_by : (items : List Found) (k : ℕ) (b c : Found) → k ≢ 0 → k < length items
    → b ≡ get_or items (k - 1) b → c ≡ get_or items k c
    → IsLowerSlope (get_or items (k - 1) b).slope.num (get_or items (k - 1) b).slope.den
    (get_or items k c).slope.num (get_or items k c).slope.den → Ascends (map break_of items) k
ascends_by items k b c ne l eb ec less = λ j d e.
    let back : k - 1 ≡ j = omega (arith, e) in
    let lj : j < length items = omega (arith, l, e) in
    let one : get_or (map break_of items) j d ≡ break_of (get_or items (k - 1) b) = kept_at items j
    b d lj (subst (λ i. b ≡ get_or items i b) back eb) ∙ ap break_of eb in
    let two : get_or (map break_of items) k d ≡ break_of (get_or items k c) = kept_at items k c d l
    ec ∙ ap break_of ec in
    subst (λ (y : Break). IsLowerSlope (get_or (map break_of items) j d).num
    (get_or (map break_of items) j d).den y.num y.den) (sym two)
    (subst (λ (x : Break). IsLowerSlope x.num x.den (get_or items k c).slope.num
    (get_or items k c).slope.den) (sym one) less)

-- what was tested of a slope
pub step_by : (terms : List Meaning) (n : ℕ) (sizes : List ℤ) (solved : Solved) (k : ℕ) (b : Found)
    (before here : Worth) → k < length solved.breaks.items → b ≡ get_or solved.breaks.items k b
    → IsWorth terms sizes (set_before (empty_set n) (map mark_of (answer_of solved).breaks) k)
    before → IsWorth terms sizes b.set here → before.size < here.size
    → Attains terms n sizes (break_of b) before → Attains terms n sizes (break_of b) here
    → Ascends (map break_of solved.breaks.items) k → IsStepAt terms n sizes (answer_of solved) k
step_by terms n sizes solved k b before here l e wb wh larger ab ah up = record {
  ascends = up;
  step = λ d. subst (IsStep terms n sizes
      (set_before (empty_set n) (map mark_of (answer_of solved).breaks) k))
      (sym (kept_at solved.breaks.items k b d l e)) (record {
        lower = before;
        higher = here;
        lower_is = wb;
        higher_is = wh;
        lower_attains = ab;
        higher_attains = ah;
        larger = larger;
      });
}
