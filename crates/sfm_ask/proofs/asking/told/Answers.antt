use Rattle.std.proofs.Common.{◌≡◌, pos, ◌*ℤ◌, ◌+ℤ◌, FitsSigned, to_z, arith, refl}
use Rattle.std.proofs.lemmas.Int.{ints, to_z-of_z, to_z_pos}
use Rattle.std.proofs.lemmas.Bool.{false≢true}
use mir.Syntax.{w128}
use Rattle.sfm_spec.specs.Sets.{size}
use Rattle.sfm_ask.specs.Asking.{penalty_of}
use Rattle.sfm_ask.proofs.Telling.{IsTold, told-best, told-nothing}
use Rattle.sfm_ask.proofs.asking.told.Goals as goal
use Rattle.sfm_ask.proofs.asking.told.Goals.{else-is_within-via-then-is_within+else-are_apart, else-is_within-via-else-is_within}

-- the least minimiser keeps all pins
known : (c : goal.After-size) → IsTold c.args.instance.now c.args.pins.now.inside
    c.args.pins.now.outside c.args.found
known c =
    let h = rw c.requires.penalty at c.requires.found in
    told-best c.args.instance.now c.args.pins.now.inside c.args.pins.now.outside c.args.found
    c.terms.ensures.bounded c.requires.inside c.requires.outside h
    (record { has = c.if-is_within.ensures.0 refl; lacks = c.if-are_apart.ensures.0 refl })

-- what is promised to the pins
counted : (c : goal.After-size)
    → (c.args.penalty *ℤ to_z w128 c.size.result)
    ≡ (penalty_of c.args.instance.now *ℤ pos (size c.args.pins.now.inside))
counted c =
    let k = to_z_pos w128 c.size.result (omega (arith, c.size.type_inv)) in
    rw (k, c.size.ensures, c.requires.penalty) refl

-- what is told fits its type
fits : (c : goal.After-size) → let product = c.args.penalty *ℤ to_z w128 c.size.result in
    FitsSigned w128 c.args.penalty × FitsSigned w128 c.args.found.value × FitsSigned w128 product
    × FitsSigned w128 (c.args.found.value +ℤ product)
fits c =
    let k = known c in
    let e = counted c in (
      c.ranges.penalty,
      omega (arith, ints, k.before),
      omega (arith, ints, e, k.product),
      omega (arith, ints, e, k.value),
    )

pub overflow_mul-result : goal.overflow_mul-result
overflow_mul-result c = let (fm, fv, fp, fs) = fits c in simp to_z-of_z fp

pub overflow_add-result : goal.overflow_add-result
overflow_add-result c = let (fm, fv, fp, fs) = fits c in simp to_z-of_z fs

pub returns-then-are_apart-clause-asked : goal.returns-then-are_apart-clause-asked
returns-then-are_apart-clause-asked c =
    let (fm, fv, fp, fs) = fits c in
    simp to_z-of_z (rw (counted c) (known c).minimum)

pub returns-then-are_apart-clause-writable : goal.returns-then-are_apart-clause-writable
returns-then-are_apart-clause-writable c =
    let (fm, fv, fp, fs) = fits c in
    let k = known c in
    simp to_z-of_z (rw (counted c)
    (k.minimum.low.pinned.places, k.minimum.high.pinned.places, k.value))

pub returns-clause-asked : goal.returns-clause-asked
returns-clause-asked c =
    let h = rw c.requires.penalty at c.requires.found in
    told-nothing c.args.instance.now c.args.pins.now.inside c.args.pins.now.outside c.args.found
    c.terms.ensures.bounded c.requires.inside c.requires.outside h
    (λ keeps. elim c.else-is_within.branch [
      | else-is_within-via-then-is_within+else-are_apart w ↦ false≢true
          (w.if-are_apart.ensures.1 keeps.lacks)
      | else-is_within-via-else-is_within w ↦ false≢true (w.if-is_within.ensures.1 keeps.has)
    ])
