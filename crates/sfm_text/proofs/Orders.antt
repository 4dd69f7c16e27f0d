-- The order of the reasons on a line, by their places in the list of all.
use Rattle.std.proofs.Common.{◌≡◌, ◌⊎◌, inl, inr, ℕ, zero, suc, ◌<◌, ◌≤◌, List, ◌∷◌, ◌++◌, ◌+◌, length, get_or, take, drop, refl, sym, ap, ◌∙◌, subst, length-append, arith}
use Rattle.std.specs.List.{All}
use Rattle.std.proofs.lemmas.Bool.{cases_lt}
use Rattle.std.proofs.lemmas.List.{get_or-take, get_or_append_left, get_or_at}
use Rattle.sfm_lines.specs.declared.reason.Reason.{Reason}
use Rattle.sfm_lines.specs.declared.reason.Reason.TheVariants.{Long}
use Rattle.sfm_lines.specs.Reading.{reason_order, reasons}
use Rattle.sfm_text.specs.Language.{IsFirstOf}

-- each stands at its place
pub reason-at : (reason : Reason) (d : Reason) → get_or reasons (reason_order reason) d ≡ reason
reason-at Long d = refl
reason-at _ d = refl

-- and what stands at a place has that order
order-at : (k : ℕ) (d : Reason) → k < 10 → reason_order (get_or reasons k d) ≡ k
order-at zero d lt = refl
order-at (suc zero) d lt = refl
order-at (suc (suc zero)) d lt = refl
order-at (suc (suc (suc zero))) d lt = refl
order-at (suc (suc (suc (suc zero)))) d lt = refl
order-at (suc (suc (suc (suc (suc zero))))) d lt = refl
order-at (suc (suc (suc (suc (suc (suc zero)))))) d lt = refl
order-at (suc (suc (suc (suc (suc (suc (suc zero))))))) d lt = refl
order-at (suc (suc (suc (suc (suc (suc (suc (suc zero)))))))) d lt = refl
order-at (suc (suc (suc (suc (suc (suc (suc (suc (suc zero))))))))) d lt = refl
order-at (suc (suc (suc (suc (suc (suc (suc (suc (suc (suc k)))))))))) d lt =
    absurd (omega (arith, lt))

reasons-cut : (reason : Reason)
    → reasons ≡ take (reason_order reason) reasons ++ reason ∷ drop (reason_order reason + 1)
    reasons
reasons-cut Long = refl
reasons-cut _ = refl

front-length : (reason : Reason) → length (take (reason_order reason) reasons) ≡ reason_order reason
front-length Long = refl
front-length _ = refl

-- a reason is the first of the list where none of a lower number holds
pub first_listed : (Has : Reason → Type 0) (reason : Reason) → Has reason
    → ((earlier : Reason) → reason_order earlier < reason_order reason → Has earlier → ⊥)
    → IsFirstOf Has reason
first_listed Has reason holds none = record { holds = holds; first = first } where
  first : (before behind : List Reason) → reasons ≡ before ++ reason ∷ behind
      → All (λ earlier. Has earlier → ⊥) before
  first before behind e = λ k d lt.
      let count : length before < 10 = omega (
        arith,
        ap length e,
        length-append before (reason ∷ behind),
      ) in
      let here : get_or reasons (length before)
      d ≡ reason = ap (λ (l : List Reason). get_or l (length before) d) e
      ∙ get_or_at before reason behind d (length before) refl in
      let there : get_or reasons k d ≡ get_or before k d = ap (λ (l : List Reason). get_or l k d) e
      ∙ get_or_append_left before (reason ∷ behind) d k lt in
      let high : reason_order reason ≡ length before = sym (ap reason_order here)
      ∙ order-at (length before) d count in
      let low : reason_order (get_or before k d) ≡ k = sym (ap reason_order there)
      ∙ order-at k d (omega (arith, lt, count)) in
      none (get_or before k d) (omega (arith, lt, high, low))

-- and the other way round
pub first_ordered : (Has : Reason → Type 0) (reason : Reason) → IsFirstOf Has reason
    → (earlier : Reason) → reason_order earlier < reason_order reason → Has earlier → ⊥
first_ordered Has reason h earlier lt =
    let n : ℕ = reason_order reason in
    let none = h.first (take n reasons) (drop (n + 1) reasons) (reasons-cut reason)
    (reason_order earlier) earlier (omega (arith, lt, front-length reason)) in
    subst (λ (r : Reason). Has r → ⊥)
    (get_or-take n reasons (reason_order earlier) earlier lt ∙ reason-at earlier earlier) none

-- the order of the reasons tells them apart
same-reason : (a b : Reason) → reason_order a ≡ reason_order b → a ≡ b
same-reason a b e = sym (reason-at a a) ∙ (ap (λ n. get_or reasons n a) e ∙ reason-at b a)

-- of the same reasons one is the first
pub first_once : (Has Has' : Reason → Type 0) (a b : Reason)
    → ((reason : Reason) → Has reason → Has' reason)
    → ((reason : Reason) → Has' reason → Has reason)
    → IsFirstOf Has a → IsFirstOf Has' b → a ≡ b
first_once Has Has' a b forth back h g =
    at (cases_lt (reason_order a) (reason_order b)) (cases_lt (reason_order b) (reason_order a))
  where
    at : (reason_order a < reason_order b) ⊎ (reason_order b ≤ reason_order a)
        → (reason_order b < reason_order a) ⊎ (reason_order a ≤ reason_order b) → a ≡ b
    at (inl lt) other = absurd (first_ordered Has' b g a lt (forth a h.holds))
    at (inr le) (inl lt) = absurd (first_ordered Has a h b lt (back b g.holds))
    at (inr le) (inr ge) = same-reason a b (omega (arith, le, ge))
