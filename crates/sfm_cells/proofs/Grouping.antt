-- The list of the places of a number, gone through from its first entry to its last.
use Rattle.std.proofs.Common.{◌≡◌, ℕ, zero, suc, ◌+◌, ◌<◌, ◌≤◌, List, length, arith, ◌⊎◌, inl, inr, ⊎_elim}
use Rattle.std.proofs.lemmas.Bool.{cases_eq, cases_lt}
use Rattle.sfm_cells.specs.Cells.{label_at}
use Rattle.sfm_cells.specs.Groups.{group_at, AreGroups}

-- the first entries of a list are passed
pub record IsPassed (list : List ℕ) (k : ℕ) (P : ℕ → Type 0) : Type 0 where
  pub passed : (i : ℕ) → i < k → P (label_at list i)

pub pass_begun : (list : List ℕ) (P : ℕ → Type 0) → IsPassed list 0 P
pass_begun list P = record { passed = λ i lt. absurd (omega (arith, lt)) }

-- one entry more
pub pass_more : {list : List ℕ} {k : ℕ} {P : ℕ → Type 0} (Q : ℕ → Type 0) → IsPassed list k P
    → ((f : ℕ) → P f → Q f) → Q (label_at list k) → IsPassed list (k + 1) Q
pass_more {list = list} {k = k} Q h kept here = record {
  passed = λ i lt. ⊎_elim
      (λ (l : i < k). kept (label_at list i) (h.passed i l))
      (λ ge. let q : i ≡ k = omega (arith, lt, ge) in rw q here)
      (cases_lt i k);
}

-- a number stands among the first entries, or none of them is it
find : (list : List ℕ) (e n : ℕ) → ((k : ℕ) × (k < n) × (label_at list k ≡ e))
    ⊎ ((k : ℕ) → k < n → label_at list k ≡ e → ⊥)
find list e zero = inr (λ k lt q. omega (arith, lt))
find list e (suc n) = elim (find list e n) [
  | inl there ↦ (let (k, lt, q) = there in inl (k, omega (arith, lt), q))
  | inr none ↦ ⊎_elim
      (λ (q : label_at list n ≡ e). inl (n, omega arith, q))
      (λ ne. inr (λ k lt q. ⊎_elim (λ (l : k < n). none k l q)
      (λ ge. let same : k ≡ n = omega (arith, lt, ge) in ne (rw same at q)) (cases_lt k n)))
      (cases_eq (label_at list n) e)
]

module _ {labels : List ℕ} {lists : List (List ℕ)} (groups : AreGroups labels lists) {list : List ℕ}
    {j : ℕ} (is : list ≡ group_at lists j) where
  -- the entry at which one stands
  pub pass_here : {k : ℕ} → k < length list → (label_at list k < length labels)
      × (label_at labels (label_at list k) ≡ j)
  pass_here {k = k} lt = rw is (groups.own j k (rw is at lt))

  -- its end: all places of the number are passed
  pub pass_done : {k : ℕ} {P : ℕ → Type 0} → length list ≤ k → IsPassed list k P → (f : ℕ)
      → f < length labels → label_at labels f ≡ j → P f
  pass_done {k = k} end h f lt mine =
      ⊎_elim
      (λ w. let (i, there, here) = w in rw here at (h.passed i (omega (arith, there, end))))
      (λ none. absurd (groups.all f lt (rw (mine, ← is) none)))
      (find list f (length list))
