use Rattle.std.proofs.Common.{◌∙◌, ◌<ℤ◌, false, ap, get_or, length, pos, sym, arith, rules, FitsSigned}
use Rattle.std.proofs.lemmas.Int.{ints, to_z-of_z}
use Rattle.std.proofs.lemmas.Bool.{false≢true}
use Rattle.std.proofs.lemmas.List.{get_or-replicate}
use mir.Syntax.{w128}
use Rattle.sfm_matroid.proofs.Lending.{lenders_give}
use Rattle.sfm_matroid.proofs.givers.row.Goals as goal

pub returns-clause-row : goal.returns-clause-row
returns-clause-row c =
    let r = c.requires in
    let x = c.args.x.now in
    let d = c.args.kept.now.demand in
    let fc : FitsSigned w128 c.args.cap = c.ranges.cap in
    let fu : FitsSigned w128 (get_or x c.args.u (pos 0)) = search rules in
    let h = simp to_z-of_z at c.if-x-u.false in
    let less : get_or x c.args.u (pos 0) <ℤ c.args.cap = omega (arith, ints, h) in
    let lacks : get_or d.demands c.args.u (pos 0) <ℤ c.args.cap = rw r.entries less in
    lenders_give d c.args.cap c.args.u lacks c.reach.new.to
    (c.in_ok-reach.ensures.places ∙ (r.sized ∙ sym (ap length r.entries)))
    c.in_ok-reach.ensures.reached

pub returns-then-x-u-clause-row : goal.returns-then-x-u-clause-row
returns-then-x-u-clause-row c =
    let r = c.requires in
    let x = c.args.x.now in
    let u = c.args.u in
    let fc : FitsSigned w128 c.args.cap = c.ranges.cap in
    let fu : FitsSigned w128 (get_or x u (pos 0)) = search rules in
    let h = simp to_z-of_z at c.if-x-u.true in
    λ v lv.
    let l = ap length r.entries in
    let out = ap (λ t. get_or t v false) c.clear.ensures
    ∙ get_or-replicate (length c.args.to.now) v false false (omega (arith, lv, l, r.sized)) in (
      (λ has. absurd (false≢true (sym out ∙ has))),
      (λ give. let less = rw r.entries at give.0.1 in absurd (omega (arith, ints, h, less))),
    )

pub reach-requires-clause-place : goal.reach-requires-clause-place
reach-requires-clause-place c = rw c.requires.entries c.requires.place
