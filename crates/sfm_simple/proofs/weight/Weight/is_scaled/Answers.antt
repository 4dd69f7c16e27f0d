use Rattle.std.proofs.Common.{◌<◌, ◌≤◌, length, get_or, pos, ◌*ℤ◌, refl, sym, ap, ◌∙◌, arith, rules, FitsSigned}
use Rattle.std.proofs.lemmas.Bool.{false≢true}
use Rattle.std.proofs.lemmas.Int.{to_z-of_z}
use Rattle.std.proofs.lemmas.List.{get_or-map, take_all}
use Rattle.std.proofs.lemmas.List.Elements.{All-get_or}
use mir.Syntax.{w128}
use mir.Val.{of_z, to_z}
use Rattle.sfm_spec.specs.Bounds.{IsGiven}
use Rattle.sfm_law.proofs.Fits.{given_fits, given_more, product_fits}
use Rattle.sfm_simple.specs.WeightLaws.{scaled}
use Rattle.sfm_simple.proofs.Scaling.{more_read}
use Rattle.sfm_simple.proofs.weight.Weight.is_scaled.Goals as goal

pub loop-j-preserved : goal.loop-j-preserved
loop-j-preserved c =
    let me = c.args.self.now in
    let j = c.loop-j.j in
    let kw : j < length me.weights = rw (← c.as_slice-w-items.ensures) c.loop-j-test.true in
    let kx : j < length c.args.x.now = omega (arith, kw, me.same_count, c.requires.entries) in
    let w : IsGiven (get_or me.weights j (pos 0)) = All-get_or IsGiven me.weights j (pos 0) kw
    me.given in
    let fq : FitsSigned w128 c.args.q = c.ranges.q in
    let f : FitsSigned w128 (get_or me.weights j (pos 0)) = given_fits _ w in
    let fp : FitsSigned w128 (c.args.q *ℤ get_or me.weights j (pos 0)) = product_fits c.args.q _
    c.requires.factor (given_more _ w) in
    let so_far = simp to_z-of_z at c.loop-j.invariant in
    let fx : FitsSigned w128 (get_or c.args.x.now j (pos 0)) = search rules in
    let made = simp to_z-of_z at (rw c.as_slice-w-items.ensures at c.product.ensures) in
    let read = simp to_z-of_z at (ap (to_z w128) (rw made at c.if-x-j.false)) in
    simp to_z-of_z (more_read c.args.q me.weights c.args.x.now j kw kx so_far read)

pub returns-then-x-j : goal.returns-then-x-j
returns-then-x-j c =
    let me = c.args.self.now in
    let j = c.loop-j.j in
    let q = c.args.q in
    let kw : j < length me.weights = rw (← c.as_slice-w-items.ensures) c.loop-j-test.true in
    let fq : FitsSigned w128 q = c.ranges.q in
    let f : FitsSigned w128 (get_or me.weights j (pos 0)) = given_fits _
    (All-get_or IsGiven me.weights j (pos 0) kw me.given) in
    let made = simp to_z-of_z at (rw c.as_slice-w-items.ensures at c.product.ensures) in (
      (λ t. absurd (false≢true t)),
      (λ e. absurd (c.if-x-j.true (ap (of_z w128)
          (ap (λ z. get_or z j (pos 0)) e ∙ get_or-map (λ w. q *ℤ w) me.weights j (pos 0) (pos 0) kw
          ∙ sym made)))),
    )

pub returns : goal.returns
returns c =
    let me = c.args.self.now in
    let j = c.loop-j.j in
    let fq : FitsSigned w128 c.args.q = c.ranges.q in
    let end : length me.weights ≤ j = rw (← c.as_slice-w-items.ensures) c.loop-j-test.false in
    let so_far = simp to_z-of_z at c.loop-j.invariant in
    let all = sym (take_all j c.args.x.now (omega (arith, end, me.same_count, c.requires.entries)))
    ∙ so_far ∙ ap (scaled c.args.q) (take_all j me.weights end) in
    ((λ t. all), (λ e. refl))

pub product-requires-clause-factor : goal.product-requires-clause-factor
product-requires-clause-factor c = let fq : FitsSigned w128 c.args.q = c.ranges.q in simp to_z-of_z
    c.requires.factor

pub product-requires-clause-given : goal.product-requires-clause-given
product-requires-clause-given c =
    let me = c.args.self.now in
    let j = c.loop-j.j in
    let w : IsGiven (get_or me.weights j (pos 0)) = All-get_or IsGiven me.weights j (pos 0)
    (rw (← c.as_slice-w-items.ensures) c.loop-j-test.true) me.given in
    let f : FitsSigned w128 (get_or me.weights j (pos 0)) = given_fits _ w in
    rw c.as_slice-w-items.ensures (simp to_z-of_z (given_more _ w))
