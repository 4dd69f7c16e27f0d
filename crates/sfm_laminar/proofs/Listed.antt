-- Ascending lists: a binary search tells who is listed.
use Rattle.std.proofs.Common.{◌≡◌, ◌↔◌, ℕ, ◌+◌, ◌<◌, ◌≤◌, List, length, get_or, Result, Ok, Err, is_ok, MatchResult, IsTrue, ℤ, pos, ◌+ℤ◌, refl, sym, ◌∙◌, arith, drop, ⊎_elim}
use Rattle.std.specs.List.{Contains}
use Rattle.std.specs.List.Sorted.{IsBinarySearchResult}
use Rattle.std.proofs.lemmas.Bool.{false≢true, cases_lt}
use Rattle.std.proofs.lemmas.List.{get_or_default, drop_more}
use Rattle.std.proofs.lemmas.List.Sorted.{searched}
use Rattle.std.specs.Ordering.{nat_cmp}
use Rattle.sfm_spec.specs.Kinds.{Group}
use Rattle.sfm_spec.proofs.Sizes.{size_below_length}
use Rattle.sfm_laminar.specs.Groups.{IsAscending, IsGroup, IsBelow}
use Rattle.sfm_laminar.specs.Masks.{mask, length-mask, sum_listed}
use Rattle.sfm_laminar.proofs.Masked.{size-mask}

pub listed : (xs : List ℕ) (x : ℕ) (r : Result ℕ ℕ) → IsBinarySearchResult (λ y. nat_cmp y x) xs r
    → IsAscending xs → IsTrue (is_ok r) ↔ Contains xs x
listed xs x r found up = at r (searched xs x r found steady) where
  steady : (i j : ℕ) → i ≤ j → j < length xs → get_or xs i 0 ≤ get_or xs j 0
  steady i j le lt = ⊎_elim (λ l. let u = up i j l lt in omega (arith, u))
      (λ (ge : j ≤ i). let e : i ≡ j = omega arith in rw e (omega arith)) (cases_lt i j)

  at : (r : Result ℕ ℕ) → MatchResult r (λ i. (i < length xs) × (get_or xs i 0 ≡ x))
      (λ i. (i ≤ length xs) × ((k : ℕ) → k < i → get_or xs k 0 < x)
      × ((k : ℕ) → i ≤ k → k < length xs → x < get_or xs k 0))
      → IsTrue (is_ok r) ↔ Contains xs x
  at (Ok i) h = ((λ t. (i, h.0, sym (get_or_default xs i 0 x h.0) ∙ h.1)), (λ c. refl))
  at (Err i) h = (
    (λ t. absurd (false≢true t)),
    (λ (k, lt, is). let here = get_or_default xs k x 0 lt in ⊎_elim
        (λ l. let u = h.1 k l in absurd (omega (arith, u, here, is)))
        (λ ge. let u = h.2 k ge lt in absurd (omega (arith, u, here, is)))
        (cases_lt k i)),
  )

-- as many members as there are places, at most
pub few_members : (k : ℕ) (g : Group) → IsGroup g → IsBelow k g → length g.members ≤ k
few_members k g ok below =
    let s = size-mask k g.members ok.ascending below in
    let b = size_below_length (mask k g.members) in
    let l = length-mask k g.members in
    omega (arith, s, b, l)

pub sum_listed-drop : (es : List ℕ) (x : List ℤ) (j : ℕ) → j < length es
    → sum_listed (drop j es) x ≡ (get_or x (get_or es j 0) (pos 0) +ℤ sum_listed (drop (j + 1) es)
    x)
sum_listed-drop es x j h = rw (drop_more es j 0 h) refl
