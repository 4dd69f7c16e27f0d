use Rattle.std.proofs.Common.{◌∙◌, length, ap}
use Rattle.std.proofs.lemmas.List.{length-replicate}
use Rattle.std.proofs.lemmas.Result.{IfOk-weaker}
use Rattle.sfm_graphic.proofs.Kept.{basis_from}
use Rattle.sfm_graphic.proofs.growing.basis_of.Goals as goal

pub grow-requires : goal.grow-requires
grow-requires c = ap length c.in_ok-all.ensures ∙ length-replicate _ _

pub returns : goal.returns
returns c = IfOk-weaker c.grow.result _ _
    (λ t is. basis_from c.args.ends.now _ t c.in_ok-all.ensures is) c.grow.ensures.taken
