use Rattle.sfm_lines.proofs.SameBytes.{word-by}
use Rattle.sfm_lines.proofs.word.is_word.Goals as goal

pub returns : goal.returns
returns c = word-by c.args.token.now c.args.word.now c.eq.result c.eq.ensures
