use Rattle.sfm_lines.specs.Lines.{tokens_of}
use Rattle.sfm_lines.specs.declared.word.TermWord.TheVariants.{CutWord, NeedWord, TableWord}
use Rattle.sfm_passes.proofs.LongReasons.{long-shape, no-cut, no-need, no-table}
use Rattle.sfm_passes.proofs.long_line.long_reason.Goals as goal

pub returns-in-CutWord : goal.returns-in-CutWord
returns-in-CutWord c = rw c.in-CutWord.is
    (long-shape c.args.instance.now CutWord (tokens_of c.args.line.now)
    (no-cut (tokens_of c.args.line.now) c.requires.long))

pub returns-in-NeedWord : goal.returns-in-NeedWord
returns-in-NeedWord c = rw c.in-NeedWord.is
    (long-shape c.args.instance.now NeedWord (tokens_of c.args.line.now)
    (no-need (tokens_of c.args.line.now) c.requires.long))

pub returns-in-TableWord : goal.returns-in-TableWord
returns-in-TableWord c = rw c.in-TableWord.is
    (long-shape c.args.instance.now TableWord (tokens_of c.args.line.now)
    (no-table (tokens_of c.args.line.now) c.requires.long))
