-- what `cmp` answers is the order of the two products
use Rattle.std.proofs.Common.{◌≡◌, ℤ, ◌*ℤ◌, to_z, of_z, FitsSigned, arith, rules}
use Rattle.std.specs.Int.{w128}
use Rattle.std.specs.Ordering.{int_cmp}
use Rattle.std.specs.declared.cmp.Ordering.{Ordering}
use Rattle.std.proofs.lemmas.Int.{ints, to_z-of_z}
use Rattle.sfm_spec.specs.Bounds.{IsEntry, IsFactor}
use Rattle.sfm_base.proofs.Slopes.{compared}
use Rattle.sfm_base.proofs.slope.Slope.compare.Goals as goal

entry_is : (a : ℤ) → IsEntry a → to_z w128 (of_z w128 a) ≡ a
entry_is a h = let f : FitsSigned w128 a = omega (arith, ints, h.low, h.high) in to_z-of_z w128 a f

factor_is : (a : ℤ) → IsFactor a → to_z w128 (of_z w128 a) ≡ a
factor_is a h = let f : FitsSigned w128 a = omega (arith, ints, h.low, h.high) in to_z-of_z w128 a f

order_is : (x y a b a' b' : ℤ) (r : Ordering) → FitsSigned w128 x → FitsSigned w128 y → IsEntry a
    → IsFactor b → IsEntry a' → IsFactor b'
    → r ≡ int_cmp (to_z w128 (of_z w128 x)) (to_z w128 (of_z w128 y))
    → x ≡ (to_z w128 (of_z w128 a) *ℤ to_z w128 (of_z w128 b))
    → y ≡ (to_z w128 (of_z w128 a') *ℤ to_z w128 (of_z w128 b'))
    → r ≡ int_cmp (a *ℤ b) (a' *ℤ b')
order_is x y a b a' b' r fx fy ea fb ea' fb' h e e' =
    cc (
      to_z-of_z w128 x fx,
      to_z-of_z w128 y fy,
      entry_is a ea,
      factor_is b fb,
      entry_is a' ea',
      factor_is b' fb',
    )

pub returns : goal.returns
returns c =
    let fx : FitsSigned w128 c.product-mine.result = search rules in
    let fy : FitsSigned w128 c.product-theirs.result = search rules in
    let d = compared (c.args.self.now.num *ℤ c.args.other.now.den)
    (c.args.other.now.num *ℤ c.args.self.now.den) c.cmp.result
    (order_is _ _ _ _ _ _ _ fx fy c.args.self.now.entry c.args.other.now.factor
    c.args.other.now.entry c.args.self.now.factor
    c.cmp.ensures c.product-mine.ensures c.product-theirs.ensures) in
    record { less = d.less; equal = d.equal; greater = d.greater }
