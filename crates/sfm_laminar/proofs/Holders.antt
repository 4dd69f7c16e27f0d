-- The groups that hold a place, found one after another, and those of each place.
use Rattle.std.proofs.Common.{◌≡◌, ◌↔◌, ℕ, zero, suc, ◌+◌, ◌<◌, ◌≤◌, Bool, true, false, List, [], ◌∷◌, ◌++◌, length, get_or, nat_eq, if◌then◌else◌, refl, sym, ap, ◌∙◌, arith, ⊎_elim}
use Rattle.std.specs.List.{Contains, list_any}
use Rattle.std.proofs.lemmas.Bool.{false≢true, cases_lt, cases_Bool, or_left, or_right, eqb-true, eq-eqb}
use Rattle.std.proofs.lemmas.Map.Views.{Contains-from_any}
use Rattle.std.proofs.lemmas.List.{get_or_default}
use Rattle.std.proofs.lemmas.List.Elements.{Contains-get_or, Contains-push, Contains-push_cases, Contains-append_left}
use Rattle.sfm_spec.specs.Kinds.{Group}
use Rattle.sfm_laminar.specs.Crossing.{group_at}
use Rattle.sfm_laminar.specs.Indexes.{holders}

-- the numbers are those of the first n groups that have e, and no other
abbrev pub AreHolders : List Group → ℕ → ℕ → List ℕ → Type 0
AreHolders groups n e es = (i : ℕ) → Contains es i
    ↔ ((i < n) × Contains (group_at groups i).members e)

tested : (e : ℕ) (es : List ℕ) → Contains es e → list_any (nat_eq e) es ≡ true
tested e [] (p, lp, is) = absurd (omega arith)
tested e (d ∷ es) (zero, lp, is) =
    or_left (nat_eq e d) (list_any (nat_eq e) es) (eq-eqb e d (sym is))
tested e (d ∷ es) (suc p, lp, is) =
    or_right (nat_eq e d) (list_any (nat_eq e) es) (tested e es (p, omega arith, is))

test_tells : (e : ℕ) (es : List ℕ) → list_any (nat_eq e) es ≡ true → Contains es e
test_tells = Contains-from_any {eq = nat_eq} eqb-true

-- one group more
add-one : (n : ℕ) → suc n ≡ (n + 1)
add-one n = omega arith

pub holders_with : (groups : List Group) (e n : ℕ) → Contains (group_at groups n).members e
    → (holders groups e n ++ n ∷ []) ≡ holders groups e (n + 1)
holders_with groups e n has = here ∙ ap (λ m. holders groups e m) (add-one n) where
  here : (holders groups e n ++ n ∷ []) ≡ holders groups e (suc n)
  here = rw (tested e (group_at groups n).members has) refl

pub holders_without : (groups : List Group) (e n : ℕ) → (Contains (group_at groups n).members e → ⊥)
    → holders groups e n ≡ holders groups e (n + 1)
holders_without groups e n never = here ∙ ap (λ m. holders groups e m) (add-one n) where
  out : list_any (nat_eq e) (group_at groups n).members ≡ false
  out = ⊎_elim (λ t. absurd (never (test_tells e (group_at groups n).members t))) (λ f. f)
      (cases_Bool (list_any (nat_eq e) (group_at groups n).members))

  here : holders groups e n ≡ holders groups e (suc n)
  here = rw out refl

grows : (groups : List Group) (n e : ℕ) (es : List ℕ) → AreHolders groups n e es
    → Contains (group_at groups n).members e → AreHolders groups (suc n) e (es ++ n ∷ [])
grows groups n e es h here i = (
  (λ c. ⊎_elim
      (λ old. let k = (h i).0 old in let l = k.0 in (omega (arith, l), k.1))
      (λ (same : n ≡ i). (omega (arith, same), rw (← same) here))
      (Contains-push_cases es n i c)),
  (λ (lt, has). ⊎_elim
      (λ l. Contains-append_left es (n ∷ []) i ((h i).1 (l, has)))
      (λ (ge : n ≤ i). let same : i ≡ n = omega arith in rw same (Contains-push es n))
      (cases_lt i n)),
)

stays : (groups : List Group) (n e : ℕ) (es : List ℕ) → AreHolders groups n e es
    → (Contains (group_at groups n).members e → ⊥) → AreHolders groups (suc n) e es
stays groups n e es h never i = (
  (λ c. let k = (h i).0 c in let l = k.0 in (omega (arith, l), k.1)),
  (λ (lt, has). ⊎_elim
      (λ l. (h i).1 (l, has))
      (λ (ge : n ≤ i). let same : i ≡ n = omega arith in absurd (never (rw same at has)))
      (cases_lt i n)),
)

pub are_holders : (groups : List Group) (e n : ℕ) → AreHolders groups n e (holders groups e n)
are_holders groups e zero = λ i.
    ((λ (p, lp, is). absurd (omega arith)), (λ (lt, has). absurd (omega arith)))
are_holders groups e (suc n) = at (list_any (nat_eq e) (group_at groups n).members) refl
    (are_holders groups e n) where
      at : (b : Bool) → list_any (nat_eq e) (group_at groups n).members ≡ b
          → AreHolders groups n e (holders groups e n)
          → AreHolders groups (suc n) e
          (if b then holders groups e n ++ n ∷ [] else holders groups e n)
      at true is h = grows groups n e (holders groups e n) h
          (test_tells e (group_at groups n).members is)
      at false is h = stays groups n e (holders groups e n) h
          (λ c. false≢true (sym is ∙ tested e (group_at groups n).members c))

-- a group that holds u has one of the numbers
pub number_of : (groups : List Group) (es : List ℕ) (u i : ℕ)
    → AreHolders groups (length groups) u es → i < length groups
    → Contains (group_at groups i).members u → (p : ℕ) × (p < length es) × (get_or es p 0 ≡ i)
number_of groups es u i index lt has =
    let (p, lp, is) = (index i).1 (lt, has) in (p, lp, sym (get_or_default es p i 0 lp) ∙ is)

-- each number is that of a group that holds u
pub holder_at : (groups : List Group) (es : List ℕ) (u p : ℕ)
    → AreHolders groups (length groups) u es → p < length es → (get_or es p 0 < length groups)
    × Contains (group_at groups (get_or es p 0)).members u
holder_at groups es u p index lp = (index (get_or es p 0)).0 (Contains-get_or es p 0 lp)
