-- What two writes to a list of i128 leave.
use Rattle.std.proofs.Common.{ℕ, ◌<◌, ◌^◌, List, length, get_or, ℤ, pos, ◌+ℤ◌, ◌-ℤ◌, ◌≤ℤ◌, arith, FitsSigned}
use Rattle.std.specs.List.{All}
use Rattle.std.proofs.lemmas.Int.{ints}
use Rattle.std.proofs.lemmas.List.Elements.{All-get_or}
use Rattle.sfm_spec.specs.Bounds.{IsEntry}
use mir.Syntax.{w128}

pub entry_fits : (a : ℤ) → IsEntry a → FitsSigned w128 a
entry_fits a h = omega (arith, ints)

pub sum_fits : (a b : ℤ) → IsEntry a → pos 0 ≤ℤ b → b ≤ℤ pos (10 ^ 30) → FitsSigned w128 (a +ℤ b)
sum_fits a b h low high = omega (arith, ints)

pub difference_fits : (a b : ℤ) → IsEntry a → pos 0 ≤ℤ b → b ≤ℤ pos (10 ^ 30)
    → FitsSigned w128 (a -ℤ b)
difference_fits a b h low high = omega (arith, ints)

-- the two numbers of an exchange, before and after
pub exchange_fits : (x : List ℤ) (u v : ℕ) (a : ℤ) → All IsEntry x → u < length x → v < length x
    → pos 0 ≤ℤ a → a ≤ℤ pos (10 ^ 30)
    → FitsSigned w128 (get_or x u (pos 0)) × FitsSigned w128 (get_or x v (pos 0))
    × FitsSigned w128 (get_or x u (pos 0) +ℤ a) × FitsSigned w128 (get_or x v (pos 0) -ℤ a)
exchange_fits x u v a small from onto low high =
    let eu = All-get_or IsEntry x u (pos 0) from small in
    let ev = All-get_or IsEntry x v (pos 0) onto small in
    (entry_fits _ eu, entry_fits _ ev, sum_fits _ a eu low high, difference_fits _ a ev low high)
