use Rattle.sfm_readback.proofs.Tokens.{behind_both}
use Rattle.sfm_readback.proofs.lists.behind_label.Goals as goal

pub returns : goal.returns
returns c = behind_both c.args.line.now c.args.word.now c.args.label.now c.in_ok-behind.field-0.now
    c.behind-2.result c.in_ok-behind.ensures c.behind-2.ensures
