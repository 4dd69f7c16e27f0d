use Rattle.std.proofs.Common.{arith}
use Rattle.std.proofs.lemmas.Nat.Bits.{bit_at-lt, bit_at_or, bit_at_and, bit_at_xor}
use Rattle.std.specs.Int.Bits.{bit_and}
use Rattle.sfm_base.proofs.words.Joining.of.Goals as goal

pub returns-in-Union : goal.returns-in-Union
returns-in-Union c = λ t. rw c.in-Union.is (bit_at_or c.args.word c.args.other t)

pub returns-in-Intersection : goal.returns-in-Intersection
returns-in-Intersection c = λ t. rw c.in-Intersection.is (bit_at_and c.args.word c.args.other t)

pub returns-in-Difference : goal.returns-in-Difference
returns-in-Difference c = λ t.
    let x = c.args.word in
    let y = c.args.other in
    rw c.in-Difference.is (omega (
      arith,
      bit_at_and x y t,
      bit_at_xor x (bit_and x y) t,
      bit_at-lt x t,
      bit_at-lt y t,
    ))
