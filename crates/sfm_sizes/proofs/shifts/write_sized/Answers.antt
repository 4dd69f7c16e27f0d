use Rattle.std.proofs.Common.{◌≡◌, ◌<◌, ◌++◌, [], ◌∷◌, length, get_or, take, pos, ◌*ℤ◌, FitsSigned, arith, ap, sym, ◌∙◌}
use Rattle.std.proofs.lemmas.Int.{ints, to_z-of_z}
use Rattle.std.proofs.lemmas.List.{take_more_set, length-set}
use mir.Syntax.{w128}
use Rattle.sfm_spec.specs.Families.{sized_shift}
use Rattle.sfm_sizes.proofs.Sized.{product-fits, size-at, sized-more}
use Rattle.sfm_sizes.proofs.shifts.write_sized.Goals as goal

pub overflow_mul-to : goal.overflow_mul-to
overflow_mul-to c =
    let sizes = c.args.sizes.now in
    let e = c.loop-e.e in
    let p = c.args.p in
    let l : e < length sizes = omega (arith, c.loop-e-test.true, c.loop-e.invariant.places) in
    let fp : FitsSigned w128 p = c.ranges.p in
    let (one, most) = size-at _ sizes e c.requires.sizes l in
    let fw : FitsSigned w128 (get_or sizes e (pos 0)) = omega (arith, ints, one, most) in
    let fits = product-fits _ sizes e p c.requires.small c.requires.sizes l in
    simp to_z-of_z fits

pub loop-e-preserved : goal.loop-e-preserved
loop-e-preserved c =
    let sizes = c.args.sizes.now in
    let e = c.loop-e.e in
    let p = c.args.p in
    let inv = c.loop-e.invariant in
    let l : e < length sizes = omega (arith, c.loop-e-test.true, inv.places) in
    let fp : FitsSigned w128 p = c.ranges.p in
    let (one, most) = size-at _ sizes e c.requires.sizes l in
    let fw : FitsSigned w128 (get_or sizes e (pos 0)) = omega (arith, ints, one, most) in
    let fits : FitsSigned w128 (p *ℤ get_or sizes e (pos 0))
    = product-fits _ sizes e p c.requires.small c.requires.sizes l in
    let before : take e c.loop-e.shift ≡ sized_shift (take e sizes) p = simp to_z-of_z at
    inv.so_far in
    let wrote = take_more_set c.loop-e.shift e (p *ℤ get_or sizes e (pos 0))
    (omega (arith, l, inv.places)) in
    simp to_z-of_z (record {
      places = rw length-set inv.places;
      so_far = wrote ∙ ap (λ x. x ++ (p *ℤ get_or sizes e (pos 0)) ∷ []) before
          ∙ sym (sized-more sizes e p l);
    })
