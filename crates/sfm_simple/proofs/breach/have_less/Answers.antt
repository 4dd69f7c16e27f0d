use Rattle.std.proofs.Common.{◌≡◌, ◌+ℤ◌, ◌<ℤ◌, true, ℤ, arith, FitsSigned}
use Rattle.std.specs.Int.Signed.{lt_z}
use Rattle.std.proofs.lemmas.Int.{ints, to_z-of_z}
use mir.Syntax.{w128}
use Rattle.sfm_simple.proofs.breach.have_less.Goals as goal

from_less : (a b : ℤ) → a <ℤ b → lt_z a b ≡ true
from_less a b h = grind (arith, ints)

pub returns : goal.returns
returns c =
    let r = c.requires in
    let f1 : FitsSigned w128 c.args.first = c.ranges.first in
    let f2 : FitsSigned w128 c.args.second = c.ranges.second in
    let f3 : FitsSigned w128 c.args.both = c.ranges.both in
    let f4 : FitsSigned w128 c.args.neither = c.ranges.neither in
    let s1 : FitsSigned w128 (c.args.first +ℤ c.args.second) = omega (arith, ints) in
    let s2 : FitsSigned w128 (c.args.both +ℤ c.args.neither) = omega (arith, ints) in
    simp to_z-of_z (
      (λ t. omega (arith, ints, t)),
      from_less (c.args.first +ℤ c.args.second) (c.args.both +ℤ c.args.neither),
    )
