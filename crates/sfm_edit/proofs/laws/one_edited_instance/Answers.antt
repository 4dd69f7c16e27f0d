use Rattle.sfm_edit.proofs.OneEditing.{one-reading, not-both, one-fault}
use Rattle.sfm_edit.proofs.laws.one_edited_instance.Goals as goal

pub returns-clause-once : goal.returns-clause-once
returns-clause-once c = λ instance a b distinct. one-reading instance distinct c.args._text.now a b

pub returns-clause-not_both : goal.returns-clause-not_both
returns-clause-not_both c = λ instance a line reason distinct. not-both instance distinct
    c.args._text.now a line reason

pub returns-clause-first : goal.returns-clause-first
returns-clause-first c = λ instance line line' reason reason' distinct. one-fault instance distinct
    c.args._text.now line line' reason reason'
