-- What is known of the line of a word is known of this word.
use Rattle.std.proofs.lemmas.Result.{IfOk-weaker}
use Rattle.sfm_lines.specs.Lines.{texts_of}
use Rattle.sfm_lines.specs.ReadParts.{parts_of}
use Rattle.sfm_lines.proofs.SplitLines.{cut-line, need-line, cover-line}
use Rattle.sfm_lines.proofs.line_parts.line_parts.Goals as goal

pub rank_parts-requires : goal.rank_parts-requires
rank_parts-requires c = rw c.in-RankWord.is at c.requires

pub returns-in-CutWord : goal.returns-in-CutWord
returns-in-CutWord c = rw c.in-CutWord.is
    (IfOk-weaker c.split_parts.result _ _
    (λ r h. cut-line parts_of (texts_of c.args.tokens.now) r h)
    (rw c.in-CutWord.is at c.split_parts.ensures))

pub returns-in-NeedWord : goal.returns-in-NeedWord
returns-in-NeedWord c = rw c.in-NeedWord.is
    (IfOk-weaker c.split_parts-in-NeedWord.result _ _
    (λ r h. need-line parts_of (texts_of c.args.tokens.now) r h)
    (rw c.in-NeedWord.is at c.split_parts-in-NeedWord.ensures))

pub returns-in-CoverWord : goal.returns-in-CoverWord
returns-in-CoverWord c = rw c.in-CoverWord.is
    (IfOk-weaker c.split_parts-in-CoverWord.result _ _
    (λ r h. cover-line parts_of (texts_of c.args.tokens.now) r h)
    (rw c.in-CoverWord.is at c.split_parts-in-CoverWord.ensures))

pub returns-in-TableWord : goal.returns-in-TableWord
returns-in-TableWord c = rw c.in-TableWord.is (rw c.in-TableWord.is at c.colon_parts.ensures)

pub returns-in-ConcaveWord : goal.returns-in-ConcaveWord
returns-in-ConcaveWord c = rw c.in-ConcaveWord.is
    (rw c.in-ConcaveWord.is at c.colon_parts-in-ConcaveWord.ensures)
