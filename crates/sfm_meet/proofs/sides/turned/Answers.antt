use Rattle.std.proofs.Common.{◌≡◌, [], ◌∷◌, ◌++◌, get_or, pos, neg_ℤ, ◌-ℤ◌, to_z, of_z, FitsSigned, rules, arith, sym, ap, ◌∙◌}
use Rattle.std.proofs.lemmas.Int.{ints}
use Rattle.std.proofs.lemmas.List.{map_more}
use Rattle.std.proofs.lemmas.List.Elements.{All-get_or}
use mir.Syntax.{w128}
use Rattle.sfm_spec.specs.Bounds.{IsEntry}
use Rattle.sfm_meet.proofs.sides.turned.Goals as goal

pub overflow_sub-a : goal.overflow_sub-a
overflow_sub-a c =
    let xs = c.args.x.now in
    let i = c.loop-a.a-index in
    let fa : FitsSigned w128 (get_or xs i (pos 0)) = search rules in
    let b = All-get_or IsEntry xs i (pos 0) c.loop-a-test.true c.requires in
    omega (arith, ints, fa, b.low, b.high)

pub loop-a-preserved : goal.loop-a-preserved
loop-a-preserved c =
    let xs = c.args.x.now in
    let i = c.loop-a.a-index in
    let fa : FitsSigned w128 (get_or xs i (pos 0)) = search rules in
    let b = All-get_or IsEntry xs i (pos 0) c.loop-a-test.true c.requires in
    let fits : FitsSigned w128 (pos 0 -ℤ to_z w128 (of_z w128 (get_or xs i (pos 0)))) =
    omega (arith, ints, fa, b.low, b.high) in
    let same : to_z w128 (of_z w128 (pos 0 -ℤ to_z w128 (of_z w128 (get_or xs i (pos 0))))) ≡ neg_ℤ
    (get_or xs i (pos 0)) = omega (arith, ints, fa, fits) in
    let more = map_more neg_ℤ xs i (pos 0) c.loop-a-test.true in
    let pushed = rw same at c.in_ok-push.ensures.items in
    pushed ∙ (ap (λ ys. ys ++ neg_ℤ (get_or xs i (pos 0)) ∷ []) c.loop-a.invariant ∙ sym more)
