-- How the ends of making a term differ.
use Rattle.std.proofs.Common.{◌≡◌, ℕ, ◌<◌, ◌≤◌, List, ℤ, ⊎_elim, Result, Ok, Err, ap, arith}
use Rattle.std.specs.Result.{IsErrAnd}
use Rattle.std.proofs.lemmas.Bool.{cases_lt}
use Rattle.sfm_concave.specs.ConcaveLaws.{IsFirstRise}
use Rattle.sfm_concave.specs.declared.concave.ConcaveEnd.{ConcaveEnd}
use Rattle.sfm_concave.specs.declared.concave.ConcaveEnd.TheVariants.{Rises, Memory}

pub memory_apart : (X : Type 0) (r : Result X ConcaveEnd) (a : ℕ) → r ≡ Err Memory
    → r ≡ Err (Rises a) → ⊥
memory_apart X r a e f = cc

pub ok_apart : (X : Type 0) (r : Result X ConcaveEnd) (x : X) (a : ℕ) → r ≡ Ok x → r ≡ Err (Rises a)
    → ⊥
ok_apart X r x a e f = cc

pub same_rise : (X : Type 0) (r : Result X ConcaveEnd) (i a : ℕ) → r ≡ Err (Rises i)
    → r ≡ Err (Rises a) → i ≡ a
same_rise X r i a e f = cc

pub memory_told : (X : Type 0) (r : Result X ConcaveEnd) → IsErrAnd r (λ e. e ≡ Memory)
    → r ≡ Err Memory
memory_told X (Ok x) h = absurd h
memory_told X (Err e) h = ap Err h

pub first_once : (g : List ℤ) (i a : ℕ) → IsFirstRise g i → IsFirstRise g a → i ≡ a
first_once g i a h k =
    ⊎_elim (λ (l : i < a). absurd (k.first i l h.rises))
    (λ (ge : a ≤ i). ⊎_elim (λ (l : a < i). absurd (h.first a l k.rises))
    (λ (le : i ≤ a). omega arith) (cases_lt a i)) (cases_lt i a)
