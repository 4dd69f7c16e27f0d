use Rattle.std.proofs.Common.{◌<◌, ◌≤◌, length, get_or, pos, sym, ap, ◌∙◌, arith, FitsSigned}
use Rattle.std.proofs.lemmas.Int.{to_z-of_z}
use Rattle.std.proofs.lemmas.List.{take_all}
use Rattle.std.proofs.lemmas.List.Elements.{All-get_or}
use mir.Syntax.{w128}
use Rattle.sfm_spec.specs.Bounds.{IsGiven}
use Rattle.sfm_law.proofs.Fits.{given_fits, given_more}
use Rattle.sfm_simple.specs.WeightLaws.{scaled}
use Rattle.sfm_simple.proofs.Scaling.{more_written}
use Rattle.sfm_simple.proofs.weight.Weight.write_scaled.Goals as goal

pub product-requires-clause-factor : goal.product-requires-clause-factor
product-requires-clause-factor c = let fq : FitsSigned w128 c.args.q = c.ranges.q in simp to_z-of_z
    c.requires.factor

pub product-requires-clause-given : goal.product-requires-clause-given
product-requires-clause-given c =
    let me = c.args.self.now in
    let j = c.loop-j.j in
    let w : IsGiven (get_or me.weights j (pos 0)) = All-get_or IsGiven me.weights j (pos 0)
    (rw (← c.as_slice-w-items.ensures) c.loop-j-test.true) me.given in
    let f : FitsSigned w128 (get_or me.weights j (pos 0)) = given_fits _ w in
    rw c.as_slice-w-items.ensures (simp to_z-of_z (given_more _ w))

pub loop-j-preserved : goal.loop-j-preserved
loop-j-preserved c =
    let me = c.args.self.now in
    let j = c.loop-j.j in
    let kw : j < length me.weights = rw (← c.as_slice-w-items.ensures) c.loop-j-test.true in
    let kx : j < length c.loop-j.x = omega (
      arith,
      kw,
      me.same_count,
      c.requires.entries,
      c.loop-j.auto.x,
    ) in
    let fq : FitsSigned w128 c.args.q = c.ranges.q in
    let f : FitsSigned w128 (get_or me.weights j (pos 0)) = given_fits _
    (All-get_or IsGiven me.weights j (pos 0) kw me.given) in
    let fp : FitsSigned w128 c.product.result = record { sfits = c.product.type_inv } in
    let so_far = simp to_z-of_z at c.loop-j.invariant in
    let made = simp to_z-of_z at (rw c.as_slice-w-items.ensures at c.product.ensures) in
    simp to_z-of_z (more_written c.args.q me.weights c.loop-j.x j c.product.result kw kx so_far
    made)

pub returns : goal.returns
returns c =
    let me = c.args.self.now in
    let j = c.loop-j.j in
    let fq : FitsSigned w128 c.args.q = c.ranges.q in
    let end : length me.weights ≤ j = rw (← c.as_slice-w-items.ensures) c.loop-j-test.false in
    let so_far = simp to_z-of_z at c.loop-j.invariant in
    sym (take_all j c.loop-j.x (omega (
      arith,
      end,
      me.same_count,
      c.requires.entries,
      c.loop-j.auto.x,
    ))) ∙ so_far ∙ ap (scaled c.args.q) (take_all j me.weights end)
