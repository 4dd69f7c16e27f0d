use Rattle.std.proofs.Common.{◌++◌, ◌∷◌, [], ◌∙◌, get_or, ap, sym}
use Rattle.std.proofs.lemmas.Grind.{take_at_read}
use Rattle.std.proofs.lemmas.List.{take_all}
use Rattle.sfm_matroid.proofs.matching.write_numbers.Goals as goal

pub loop-v-preserved : goal.loop-v-preserved
loop-v-preserved c =
    let slots = c.args.slots.now in
    let i = c.loop-v.v-index in
    c.in_ok-push.ensures.items ∙ (ap (λ items. items ++ get_or slots i 0 ∷ []) c.loop-v.invariant
    ∙ sym (take_at_read slots i 0 c.loop-v-test.true).1)

pub returns : goal.returns
returns c = c.loop-v.invariant ∙ take_all c.loop-v.v-index c.args.slots.now c.loop-v-test.false
