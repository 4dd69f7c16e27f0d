-- Layers add up to the rank with weights that they are of.
use Rattle.sfm_kind.proofs.Brought.{layers-add}
use Rattle.sfm_kind.proofs.layers.Layers.add_up.Goals as goal

pub returns : goal.returns
returns c = λ rank weights are is each positive meant means s.
    layers-add rank weights c.args.self.now (record { kind = is; each = each; positive = positive })
    are meant means s
