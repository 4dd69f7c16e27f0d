-- What numbers become once a slice that they lent is given back.
use Rattle.std.specs.Prelude.{ℤ, List, ◌++◌, length, take, drop}
use Rattle.std.specs.Borrow.{Lends, MutBor, Fml, Array, i128}
use Rattle.sfm_base.specs.contracts.numbers.Numbers.{the_row as numbers_row}

-- x with its front overwritten by w, which is w where w is as long
abbrev pub overwritten : List ℤ → List ℤ → List ℤ
overwritten x w = take (length x) (w ++ drop (length w) x)

abbrev pub LendsNumbers : MutBor (List ℤ) → MutBor (List ℤ) → Fml
LendsNumbers s r = Lends numbers_row (Array i128 0) s r (λ w. overwritten s.now w)
