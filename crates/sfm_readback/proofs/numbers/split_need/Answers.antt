-- the number is the text's, and it is a count within its bounds or refused
use Rattle.std.proofs.Common.{◌≡◌, ℕ, pos, List, ◌∷◌, ◌++◌, sym, ◌∙◌, arith}
use Rattle.std.proofs.lemmas.Int.{ints}
use Rattle.std.specs.Fmt.{decimal, signed_decimal}
use Rattle.sfm_spec.specs.Bounds.{IsEntry}
use Rattle.sfm_readback.proofs.Tokens.{same_entry, count_entry}
use Rattle.sfm_readback.proofs.numbers.split_need.Goals as goal
use Rattle.sfm_readback.proofs.numbers.split_need.Goals.{else-last-a-via-then-last-a+else-a-most, else-last-a-via-else-last-a}

same_tail : {x y : List ℕ} → 32 ∷ x ≡ 32 ∷ y → x ≡ y
same_tail e = cc

pub returns-in_err-a : goal.returns-in_err-a
returns-in_err-a c = rw c.from_residual.ensures
    (λ n rest low high stop e. c.in_err-a.ensures (pos n) rest
    (count_entry n (omega (arith, c.ranges.most, high))) stop e)

pub returns-else-last-a : goal.returns-else-last-a
returns-else-last-a c = λ n rest low high stop e.
    let r = c.in_ok-a.ensures in
    let entry : IsEntry (pos n) = count_entry n (omega (arith, c.ranges.most, high)) in
    let tails : signed_decimal c.in_ok-a.a ++ c.in_ok-a.rest.now ≡ decimal n ++ rest = same_tail
    (sym r.2 ∙ e) in
    let same : c.in_ok-a.a ≡ pos n = (same_entry c.in_ok-a.a (pos n) c.in_ok-a.rest.now rest r.0
    entry r.1 stop tails).0 in
    elim c.else-last-a.branch [
      | else-last-a-via-then-last-a+else-a-most w ↦
          omega (arith, ints, w.if-a-most.false, same, high, c.ranges.most)
      | else-last-a-via-else-last-a w ↦
          omega (arith, ints, w.if-last-a.false, same, low, c.ranges.last)
    ]
