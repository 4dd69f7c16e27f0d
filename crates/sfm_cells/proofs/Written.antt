-- Lists written over others of their length, at once or number by number.
use Rattle.std.proofs.Common.{◌≡◌, ℕ, zero, suc, ◌≤◌, List, [], ◌∷◌, ◌++◌, length, set, take, ℤ, refl, ap, arith}
use Rattle.std.proofs.lemmas.List.{take_at}
use Rattle.sfm_cells.specs.Splits.{amount_at}
use Rattle.sfm_cells.specs.Left.{turned}

-- a list written in place of another of its length
pub written : {A : Type 0} (xs ys : List A) (n : ℕ) → length xs ≡ n → take n (xs ++ ys) ≡ xs
written xs ys n h = take_at xs ys n h

-- what is known of totals of which the first k are new
pub record AreTurned (k : ℕ) (totals before : List ℤ) : Type 0 where
  pub places : length (turned k totals before) ≡ length totals
  pub next : amount_at (turned k totals before) k ≡ amount_at before k
  pub more : set (turned k totals before) k (amount_at totals k) ≡ turned (suc k) totals before
  pub all : length totals ≤ k → turned k totals before ≡ totals

pub are_turned : (k : ℕ) (totals before : List ℤ) → length before ≡ length totals
    → AreTurned k totals before
are_turned k [] (b ∷ before) same = absurd (omega arith)
are_turned k (t ∷ totals) [] same = absurd (omega arith)
are_turned zero [] [] same = record { places = refl; next = refl; more = refl; all = λ past. refl }
are_turned zero (t ∷ totals) (b ∷ before) same =
    record { places = same; next = refl; more = refl; all = λ past. absurd (omega (arith, past)) }
are_turned (suc k) [] [] same =
    record { places = refl; next = refl; more = refl; all = λ past. refl }
are_turned (suc k) (t ∷ totals) (b ∷ before) same =
    let r = are_turned k totals before (omega arith) in
    record {
      places = ap suc r.places;
      next = r.next;
      more = ap (λ rest. t ∷ rest) r.more;
      all = λ past. ap (λ rest. t ∷ rest) (r.all (omega (arith, past)));
    }
