use Rattle.std.proofs.Common.{ap, sym, ◌∙◌, arith, rules, FitsSigned}
use Rattle.std.proofs.lemmas.Bool.{eqb-true}
use Rattle.std.proofs.lemmas.Int.{ints, to_z-of_z}
use mir.Syntax.{w128}
use mir.Val.{to_z}
use Rattle.sfm_check.proofs.values.attain.Goals as goal

pub returns-then-value_at-least : goal.returns-then-value_at-least
returns-then-value_at-least c = λ yes.
    let entry = c.requires.formed.entry in
    let fn : FitsSigned w128 c.args.found.now.slope.num = omega (arith, ints, entry) in
    let fl : FitsSigned w128 c.in_ok-least.least = search rules in
    let fa : FitsSigned w128 c.value_at.result = search rules in
    let fb : FitsSigned w128 c.value_at-then-value_at-least.result = search rules in
    let least = simp to_z-of_z at c.in_ok-least.ensures in
    let one = simp to_z-of_z at (ap (to_z w128) c.if-value_at-least.true) in
    let two = simp to_z-of_z at (ap (to_z w128) (eqb-true _ _ yes)) in (
      sym c.value_at.ensures ∙ (one ∙ least),
      sym c.value_at-then-value_at-least.ensures
          ∙ (two ∙ least),
    )
