-- How the ends of making a term differ.
use Rattle.std.proofs.Common.{◌≡◌, ℕ, Result, Ok, Err, ap}
use Rattle.std.specs.Result.{IsErrAnd}
use Rattle.sfm_laminar.specs.declared.laminar.LaminarEnd.{LaminarEnd}
use Rattle.sfm_laminar.specs.declared.laminar.LaminarEnd.TheVariants.{Crosses, Memory}

pub memory_apart : (X : Type 0) (r : Result X LaminarEnd) (a b : ℕ) → r ≡ Err Memory
    → r ≡ Err (Crosses a b) → ⊥
memory_apart X r a b e f = cc

pub ok_apart : (X : Type 0) (r : Result X LaminarEnd) (x : X) (a b : ℕ) → r ≡ Ok x
    → r ≡ Err (Crosses a b) → ⊥
ok_apart X r x a b e f = cc

pub same_crossing : (X : Type 0) (r : Result X LaminarEnd) (i j a b : ℕ) → r ≡ Err (Crosses i j)
    → r ≡ Err (Crosses a b) → (i ≡ a) × (j ≡ b)
same_crossing X r i j a b e f = (cc, cc)

pub crossing_at : (X : Type 0) (i j a b : ℕ) (r : Result X LaminarEnd) → r ≡ Err (Crosses i j)
    → i ≡ a → j ≡ b → r ≡ Err (Crosses a b)
crossing_at X i j a b r e f g = cc

pub memory_told : (X : Type 0) (r : Result X LaminarEnd) → IsErrAnd r (λ e. e ≡ Memory)
    → r ≡ Err Memory
memory_told X (Ok x) h = absurd h
memory_told X (Err e) h = ap Err h
