-- A function of places with another value at one of them, and lower bounds on least steps that are
-- changed so.
use Rattle.std.proofs.Common.{◌≡◌, ◌≢◌, ◌⊎◌, ℕ, ◌+◌, ◌*◌, ◌<◌, ◌≤◌, List, length, nat_eq, ℤ, if◌then◌else◌, refl, sym, subst, arith, inl, inr}
use Rattle.std.proofs.lemmas.Bool.{cases_eq, eq-eqb, ne_eqb}
use Rattle.sfm_spec.specs.Families.{Meaning}
use Rattle.sfm_spec.specs.Walks.{Step, IsStep}
use Rattle.sfm_spec.specs.Labels.{step_code}
use Rattle.sfm_spec.specs.Progress.{AreLowerBounds}

-- f with the value v at the place
pub changed : ℕ → ℕ → (ℕ → ℕ) → ℕ → ℕ
changed at v f e = if nat_eq at e then v else f e

pub changed-here : (at v : ℕ) (f : ℕ → ℕ) → changed at v f at ≡ v
unfolding changed
changed-here at v f = rw (eq-eqb at at refl) refl

pub changed-other : (at v : ℕ) (f : ℕ → ℕ) (e : ℕ) → at ≢ e → changed at v f e ≡ f e
unfolding changed
changed-other at v f e ne = rw (ne_eqb at e ne) refl

-- what holds of the place with its new value, and of each other place with the old one, holds of
-- each
pub each_changed : (P : ℕ → ℕ → Type 0) (at v : ℕ) (f : ℕ → ℕ) → P at v
    → ((e : ℕ) → at ≢ e → P e (f e)) → (e : ℕ) → P e (changed at v f e)
each_changed P at v f here other e = by (cases_eq at e) where
  by : (at ≡ e) ⊎ (at ≢ e) → P e (changed at v f e)
  by (inl same) = subst (λ k. P k (changed at v f k)) same
      (subst (λ w. P at w) (sym (changed-here at v f)) here)
  by (inr ne) = subst (λ w. P e w) (sym (changed-other at v f e ne)) (other e ne)

-- lower bounds with the bound c on the least step of a place are such, where no step from there
-- that lowers d has a code below c
pub bounds_changed : (terms : List Meaning) (n : ℕ) (q : ℤ) (rows : List (List ℤ))
    (IsLast : ℕ → Type 0) (d l : ℕ → ℕ) (at c : ℕ) → AreLowerBounds terms n q rows IsLast d l
    → d at ≤ n → c ≤ n * length terms
    → ((step : Step) → IsStep terms q rows at step → d at ≡ d step.to + 1
    → c ≤ step_code terms step) → AreLowerBounds terms n q rows IsLast d (changed at c l)
bounds_changed terms n q rows IsLast d l at c h near small least = record {
  lasts = h.lasts;
  falls = h.falls;
  least = each_changed (λ e v. (step : Step) → IsStep terms q rows e step → d e ≡ d step.to + 1
      → v ≤ step_code terms step) at c l least (λ e ne. h.least e);
  bounded = h.bounded;
  codes = each_changed (λ e v. e < n → v ≤ n * length terms) at c l (λ le. small)
      (λ e ne. h.codes e);
  far = each_changed (λ e v. e < n → d e ≡ n + 1 → v ≡ 0) at c l
      (λ le is. absurd (omega (arith, is, near))) (λ e ne. h.far e);
}
