-- A vector in the ratio of a base is a base: what its parts add up to is in that ratio, and so are
-- the values that bound it.
use Rattle.std.specs.Prelude.{option_map}
use Rattle.std.proofs.Common.{◌≡◌, suc, ◌^◌, Bool, true, false, List, [], ◌∷◌, length, ℤ, pos, ◌+ℤ◌, ◌*ℤ◌, ◌≤ℤ◌, Some, sym, ap, ◌∙◌, arith, FitsSigned}
use Rattle.std.proofs.lemmas.Int.{ints, fits_signed_mul}
use Rattle.std.proofs.Math.IntN.{*ℤ-zero}
use mir.Syntax.{w128}
use Rattle.sfm_spec.specs.Bounds.{IsEntry, IsFactor}
use Rattle.sfm_spec.specs.Sets.{sum_over, whole_set}
use Rattle.sfm_spec.specs.Terms.{SetFunction, times, IsBase}
use Rattle.sfm_spec.proofs.Scaled.{times_some, times-add, times-assoc, times-comm, times-mono, times-cancel}
use Rattle.sfm_check.specs.Findings.{AreInRatio}

-- a factor times an entry fits
pub entry_fits : (q a : ℤ) → IsFactor q → IsEntry a → FitsSigned w128 (q *ℤ a)
entry_fits q a f h = fits_signed_mul w128 q a (10 ^ 6) (10 ^ 30) (omega (arith, ints))
    (omega (arith, ints)) (omega arith)

same : (q a b : ℤ) → pos 1 ≤ℤ q → (q *ℤ a) ≡ (q *ℤ b) → a ≡ b
same q a b one h =
    let le = times-cancel q a b one (omega (arith, ints, h)) in
    let ge = times-cancel q b a one (omega (arith, ints, h)) in
    omega (arith, ints, le, ge)

-- what a part adds up to is in the ratio of the entries
sums : (p q : ℤ) (s : List Bool) (x y : List ℤ) → length x ≡ length y
    → AreInRatio (length x) q x p y → (p *ℤ sum_over s x) ≡ (q *ℤ sum_over s y)
sums p q [] x y len h = *ℤ-zero p ∙ sym (*ℤ-zero q)
sums p q (b ∷ s) [] [] len h = *ℤ-zero p ∙ sym (*ℤ-zero q)
sums p q (b ∷ s) [] (c ∷ y) len h = absurd (omega (arith, len))
sums p q (b ∷ s) (a ∷ x) [] len h = absurd (omega (arith, len))
sums p q (true ∷ s) (a ∷ x) (c ∷ y) len h =
    let rest = sums p q s x y (omega (arith, len)) (λ i l. h (suc i) (omega (arith, l))) in
    times-add p a (sum_over s x) ∙ (ap (λ z. z +ℤ (p *ℤ sum_over s x)) (h 0 (omega arith))
    ∙ (ap (λ z. (q *ℤ c) +ℤ z) rest ∙ sym (times-add q c (sum_over s y))))
sums p q (false ∷ s) (a ∷ x) (c ∷ y) len h =
    let rest = sums p q s x y (omega (arith, len)) (λ i l. h (suc i) (omega (arith, l))) in
    times-add p (pos 0) (sum_over s x)
    ∙ (ap (λ z. z +ℤ (p *ℤ sum_over s x)) (*ℤ-zero p ∙ sym (*ℤ-zero q))
    ∙ (ap (λ z. (q *ℤ pos 0) +ℤ z) rest ∙ sym (times-add q (pos 0) (sum_over s y))))

-- two factors one after the other
turned : (p q a : ℤ) → (q *ℤ (p *ℤ a)) ≡ (p *ℤ (q *ℤ a))
turned p q a = sym (times-assoc q p a) ∙ (ap (λ z. z *ℤ a) (times-comm q p) ∙ times-assoc p q a)

-- a vector in the ratio of a base is one
pub base_in_ratio : (f : SetFunction) (p q : ℤ) (x y : List ℤ) → pos 1 ≤ℤ p → pos 1 ≤ℤ q
    → length x ≡ length y → AreInRatio (length x) q x p y → IsBase (times p f) y
    → IsBase (times q f) x
base_in_ratio f p q x y one_p one_q len h base = record { within = within; total = total } where
  within : (s : List Bool) (c : ℤ) → length s ≡ length x → times q f s ≡ Some c → sum_over s x ≤ℤ c
  within s c ls is =
      let (a, fs, ec) = times_some q (f s) c is in
      let le : sum_over s y ≤ℤ (p *ℤ a) = base.within s (p *ℤ a) (ls ∙ len)
      (ap (option_map (λ z. p *ℤ z)) fs) in
      let up = times-mono q (sum_over s y) (p *ℤ a) (omega (arith, ints, one_q)) le in
      let e = sums p q s x y len h in
      let t = turned p q a in
      rw ec (times-cancel p (sum_over s x) (q *ℤ a) one_p (omega (arith, ints, e, up, t)))

  total : times q f (whole_set (length x)) ≡ Some (sum_over (whole_set (length x)) x)
  total =
      let w = whole_set (length x) in
      let (a, fs, ec) = times_some p (f w) (sum_over w y) (rw (← len) at base.total) in
      let e = sums p q w x y len h in
      let is : sum_over w x ≡ (q *ℤ a) = same p (sum_over w x) (q *ℤ a) one_p
      (e ∙ (ap (λ z. q *ℤ z) ec ∙ turned p q a)) in
      ap (option_map (λ z. q *ℤ z)) fs ∙ ap Some (sym is)
