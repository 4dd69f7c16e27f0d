use Rattle.std.proofs.Common.{codes}
use Rattle.sfm_lines.specs.Lines.{tokens_of}
use Rattle.sfm_edit.specs.EditLines.{editing_of}
use Rattle.sfm_edit.proofs.LineLengths.{behind-good}
use Rattle.sfm_edit.proofs.Reasons.{edit-other, empty-other, first-other}
use Rattle.sfm_edit.proofs.editing.take_line.Goals as goal

pub returns-in_default : goal.returns-in_default
returns-in_default c =
    let tokens = tokens_of c.args.line.now in
    edit-other (editing_of c.args.edited.now) tokens
    (empty-other (codes "drop") tokens c.in_default.ensures.cut)
    (empty-other (codes "add") tokens c.in_default.ensures.cut)

pub take_add-requires-clause-good : goal.take_add-requires-clause-good
take_add-requires-clause-good c =
    behind-good c.args.line.now c.in-Some.word.now c.in-Some.rest.now c.in-Some.ensures.placed
    c.requires.good

pub returns : goal.returns
returns c =
    let tokens = tokens_of c.args.line.now in
    let word = c.in-Some.word.now in
    let more = tokens_of c.in-Some.rest.now in
    edit-other (editing_of c.args.edited.now) tokens
    (first-other (codes "drop") word tokens more c.in-Some.ensures.cut c.if-is_word.ensures)
    (first-other (codes "add") word tokens more c.in-Some.ensures.cut c.if-is_word-2.ensures)
