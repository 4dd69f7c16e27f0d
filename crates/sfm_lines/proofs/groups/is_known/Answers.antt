-- A text is among the different texts exactly where it is among all.
use Rattle.std.proofs.Common.{◌∙◌}
use Rattle.sfm_lines.proofs.Known.{known-among}
use Rattle.sfm_lines.proofs.groups.is_known.Goals as goal

pub returns : goal.returns
returns c = λ texts keys. c.contains.ensures ∙ known-among c.args.text.now c.args.known.now.keys
    texts keys
